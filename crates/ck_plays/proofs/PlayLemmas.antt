-- One more read, and how playing ends
use Rattle.std.proofs.Common.{◌≡◌, ◌≤◌, ◌+◌, ℕ, suc, Bool, true, false, List, [], ◌∷◌}
use Rattle.std.proofs.Common.{◌++◌, Ok, Err, length, refl, sym, ap, ◌∙◌, subst, arith}
use Rattle.std.proofs.Common.{add-one}
use Rattle.std.proofs.lemmas.List.{length_push}
use Rattle.std.specs.Prelude.{◌==◌, if◌then◌else◌}
use Rattle.ck_types.specs.TokenLimits.{Ranges}
use Rattle.ck_script.specs.Lines.{lines_in}
use Rattle.ck_journal.specs.TokenStates.{TokenState}
use Rattle.ck_plays.specs.Devices.{Reading, Writing, end_read, failed_read, read_on}
use Rattle.ck_plays.specs.Players.{IsStopped, IsAnsweredSoFar, IsReading, IsReadOn}
use Rattle.ck_plays.specs.Players.{IsOfLine, AnswersLine, StopsAtLine, AnswersChunk, StopsInChunk}
use Rattle.ck_plays.specs.Players.{AnswersRead, StopsInRead}
use Rattle.ck_journal.specs.Bases.{empty_base}
use Rattle.ck_journal.specs.Histories.{start}
use Rattle.ck_plays.specs.Plays.{output_of, after_reads, ended_lines, IsPlayed, AreReads}
use Rattle.ck_plays.specs.Plays.{failed_reads, one_if, Outcome, EndedLinesAnswered}
use Rattle.ck_plays.specs.declared.faults.PlayFault.{PlayFault}
use Rattle.ck_plays.specs.declared.faults.PlayFault.TheVariants as fault
use Rattle.ck_plays.specs.Players.{PlayerState}
use Rattle.ck_plays.proofs.LineLemmas.{lines_in-read_on}
use Rattle.ck_plays.proofs.ReadingLemmas.{nothing_read, further, after_failed, at_end}
use Rattle.ck_plays.proofs.WriteLemmas.{nothing_written}

-- where the last line has no end, all lines before it have theirs
ended_lines-push : (before : List (List ℕ)) (l : List ℕ)
    → ended_lines (before ++ l ∷ []) ≡ length before
ended_lines-push [] l = refl
ended_lines-push (b ∷ before) l = length_push before l ∙ add-one (length before)

ended_lines-parts : (lines before : List (List ℕ)) (l : List ℕ) → lines ≡ before ++ l ∷ []
    → length before ≡ ended_lines lines
ended_lines-parts lines before l e = sym (ap ended_lines e ∙ ended_lines-push before l)

-- the lines that have their ends are answered, and no end was found
open_lines : (limits : Ranges) (written : Writing) (script : List ℕ) (player : PlayerState)
    (P : Writing → Type 0) (so_far : IsAnsweredSoFar limits written (lines_in script) [] 0 player P)
    → EndedLinesAnswered limits (lines_in script) false (output_of limits so_far.before)
open_lines limits written script player P so_far = record {
  before = so_far.before;
  open_line = player.open_line;
  no_end = refl;
  parts = so_far.parts;
  good = so_far.answered.good;
  written = refl;
}

-- a failed read
pub played-read_failed : (player : PlayerState) (A B : Reading → Type 0) (P : Writing → Type 0)
    (f : PlayFault)
    → f ≡ fault.Read → ((r : Reading) → A r → B (failed_read r)) → StopsInRead player A P B P f
played-read_failed player A B P f e more limits read written reads most lt h =
    subst (λ (g : PlayFault). IsPlayed limits most read written B P (Err g)) (sym e) (record {
      script = h.script;
      earlier = h.script;
      ended = false;
      reads = suc reads;
      output = output_of limits h.so_far.before;
      reader = after_failed read h.script h.earlier reads A B h.reader more;
      writer = h.so_far.answered.writer;
      within = omega arith;
      outcome = open_lines limits written h.script player P h.so_far;
    })

-- no more reads are allowed
pub played-out : (limits : Ranges) (most : ℕ) (read : Reading) (written : Writing) (reads : ℕ)
    (player : PlayerState) (A : Reading → Type 0) (P : Writing → Type 0)
    → reads ≡ most → IsReading limits read written reads player A P
    → IsPlayed limits most read written A P (Err fault.Turns)
played-out limits most read written reads player A P e h = record {
  script = h.script;
  earlier = h.earlier;
  ended = false;
  reads = reads;
  output = output_of limits h.so_far.before;
  reader = h.reader;
  writer = h.so_far.answered.writer;
  within = e;
  outcome = open_lines limits written h.script player P h.so_far;
}

of_line-reads : (f : PlayFault) (n : ℕ) → IsOfLine f → n ≡ failed_reads n (Err f)
of_line-reads (fault.Line k r) n h = refl
of_line-reads fault.Read n h = absurd h
of_line-reads fault.Write n h = refl
of_line-reads fault.Memory n h = refl
of_line-reads fault.Turns n h = absurd h

of_line-within : (f : PlayFault) (most reads : ℕ) → IsOfLine f → reads ≤ most
    → AreReads most reads (Err f)
of_line-within (fault.Line k r) most reads h le = le
of_line-within fault.Read most reads h le = absurd h
of_line-within fault.Write most reads h le = le
of_line-within fault.Memory most reads h le = le
of_line-within fault.Turns most reads h le = absurd h

-- playing stopped at a line of what was read
stopped : (limits : Ranges) (most : ℕ) (read : Reading) (written : Writing)
    (script earlier : List ℕ)
    (lines : List (List ℕ)) (ended : Bool) (least reads : ℕ) (B : Reading → Type 0)
    (P : Writing → Type 0)
    (f d : PlayFault)
    → f ≡ d → lines_in script ≡ lines → least ≡ ended_lines (lines_in earlier) → reads ≤ most
    → B (after_reads read script earlier reads (one_if ended read.ends) read.failures)
    → IsStopped limits written lines ended least P d
    → IsPlayed limits most read written B P (Err f)
stopped limits most read written script earlier lines ended least reads B P f d same e counted le h
    s =
    subst (λ (g : PlayFault). IsPlayed limits most read written B P (Err g)) (sym same) (record {
      script = script;
      earlier = earlier;
      ended = ended;
      reads = reads;
      output = s.output;
      reader = subst (λ (n : ℕ). B (after_reads read script earlier reads
          (one_if ended read.ends) n)) (of_line-reads d read.failures s.of_line) h;
      writer = s.writer;
      within = of_line-within d most reads s.of_line le;
      outcome =
          subst (λ (n : ℕ). Outcome limits (lines_in script) ended n s.output (Err d)) counted
          (subst (λ (ls : List (List ℕ)). Outcome limits ls ended least s.output (Err d))
          (sym e) s.outcome);
    })

-- a read that didn't fail
module _ (player : PlayerState) (count : ℕ) (bytes : List ℕ) (A B : Reading → Type 0)
    (P Q : Writing → Type 0)
    (more : (r : Reading) → A r → B (if count == 0 then end_read r else read_on r bytes)) where
  -- the end, where the last line is answered
  pub played-ended : (token : TokenState) (number : ℕ) → count ≡ 0
      → AnswersLine player.open_line player.token player.number P token number Q
      → AnswersRead player A P player B Q true
  played-ended token number none answers limits read written reads most lt h =
      let answered = answers limits written h.so_far.before h.so_far.answered in
      let output : List ℕ = output_of limits (h.so_far.before ++ player.open_line ∷ []) in
      record {
        script = h.script;
        earlier = h.script;
        ended = true;
        reads = suc reads;
        output = output;
        reader = at_end read h.script h.earlier reads count bytes A B none h.reader more;
        writer = answered.writer;
        within = omega arith;
        outcome = subst (λ (ls : List (List ℕ)).
            Outcome limits ls true (ended_lines (lines_in h.script)) output (Ok tt))
            (sym h.so_far.parts)
            (record { end_found = refl; good = answered.good; written = refl });
      }

  -- the end, where the last line isn't answered
  pub played-ended_stopped : (f d : PlayFault) → f ≡ d → count ≡ 0
      → StopsAtLine player.open_line player.token player.number P Q d
      → StopsInRead player A P B Q f
  played-ended_stopped f d same none stops limits read written reads most lt h =
      stopped limits most read written h.script h.script _ true _ (suc reads) B Q f d same
      h.so_far.parts
      (ended_lines-parts (lines_in h.script) h.so_far.before player.open_line h.so_far.parts)
      (omega arith)
      (at_end read h.script h.earlier reads count bytes A B none h.reader more)
      (stops limits written h.so_far.before [] true refl h.so_far.answered)

  -- further bytes, of which a line isn't answered
  pub played-fed_stopped : (f d : PlayFault) → f ≡ d → (count == 0) ≡ false
      → StopsInChunk bytes player P Q d → StopsInRead player A P B Q f
  played-fed_stopped f d same some stops limits read written reads most lt h =
      stopped limits most read written (h.script ++ bytes) h.script _ false _ (suc reads) B Q f d
      same (lines_in-read_on h.script bytes h.so_far.before player.open_line h.so_far.parts)
      (ended_lines-parts (lines_in h.script) h.so_far.before player.open_line h.so_far.parts)
      (omega arith)
      (further read h.script h.earlier reads count bytes A B some h.reader more)
      (stops limits written h.so_far.before h.so_far.answered)

  -- further bytes
  pub reading-so_far : (next : PlayerState) → (count == 0) ≡ false
      → AnswersChunk bytes player P next Q → AnswersRead player A P next B Q false
  reading-so_far next some answers limits read written reads most lt h =
      let so_far = answers limits written h.so_far.before h.so_far.answered in
      record {
        script = h.script ++ bytes;
        earlier = h.script;
        so_far = record {
          before = so_far.before;
          parts = lines_in-read_on h.script bytes h.so_far.before player.open_line
              h.so_far.parts
              ∙ so_far.parts;
          on_time = omega arith;
          answered = so_far.answered;
        };
        reader = further read h.script h.earlier reads count bytes A B some h.reader more;
      }

-- nothing is read yet
pub reading-nothing : (limits : Ranges) (read : Reading) (written : Writing) (player : PlayerState)
    (A : Reading → Type 0) (P : Writing → Type 0)
    → player.token.limits ≡ limits → player.token.history ≡ start empty_base
    → player.open_line ≡ [] → player.number ≡ 1
    → A read → P written → IsReading limits read written 0 player A P
reading-nothing limits read written player A P same history empty number h w = record {
  script = [];
  earlier = [];
  so_far = record {
    before = [];
    parts = ap (λ (bytes : List ℕ). bytes ∷ []) (sym empty);
    on_time = omega arith;
    answered = record {
      same_limits = same;
      history = history;
      next_number = number;
      good = tt;
      writer = nothing_written P written w;
    };
  };
  reader = nothing_read A read h;
}

-- there is no memory before anything is read
pub played-nothing : (limits : Ranges) (most : ℕ) (read : Reading) (written : Writing)
    (A : Reading → Type 0) (P : Writing → Type 0) (f : PlayFault)
    → f ≡ fault.Memory → A read → P written → IsPlayed limits most read written A P (Err f)
played-nothing limits most read written A P f e h w =
    subst (λ (g : PlayFault). IsPlayed limits most read written A P (Err g)) (sym e) (record {
      script = [];
      earlier = [];
      ended = false;
      reads = 0;
      output = [];
      reader = nothing_read A read h;
      writer = nothing_written P written w;
      within = omega arith;
      outcome = record {
        before = [];
        unanswered = [];
        later = [];
        parts = refl;
        good = tt;
        short = omega arith;
        on_time = omega arith;
        written = refl;
      };
    })

-- a read that found the end
pub read_on-ended : (ended : Bool) (limits : Ranges) (most : ℕ) (read : Reading) (written : Writing)
    (reads : ℕ)
    (player : PlayerState) (A : Reading → Type 0) (P : Writing → Type 0)
    → ended ≡ true → IsReadOn ended limits most read written reads player A P
    → IsPlayed limits most read written A P (Ok tt)
read_on-ended true limits most read written reads player A P e h = h
read_on-ended false limits most read written reads player A P e h = cc

-- a read that didn't
pub read_on-going : (ended : Bool) (limits : Ranges) (most : ℕ) (read : Reading) (written : Writing)
    (reads : ℕ)
    (player : PlayerState) (A : Reading → Type 0) (P : Writing → Type 0)
    → ended ≡ false → IsReadOn ended limits most read written reads player A P
    → IsReading limits read written (reads + 1) player A P
read_on-going true limits most read written reads player A P e h = cc
read_on-going false limits most read written reads player A P e h = rw add-one h
