-- One more line is answered, or playing stops at it
use Rattle.std.proofs.Common.{◌≡◌, ◌<◌, ◌≤◌, ◌⊎◌, ℕ, suc, Bool, true, List, [], ◌∷◌, ◌++◌, Some}
use Rattle.std.proofs.Common.{None, length}
use Rattle.std.proofs.Common.{refl, sym, ap, ap₂, ◌∙◌, subst, inl, inr, arith, add-one}
use Rattle.std.proofs.Common.{append_assoc}
use Rattle.std.proofs.lemmas.List.{length_push}
use Rattle.ck_types.specs.TokenLimits.{Ranges}
use Rattle.ck_journal.specs.Answers.{answer}
use Rattle.ck_journal.specs.Histories.{History}
use Rattle.ck_journal.specs.declared.calls.Call.{Call}
use Rattle.ck_script.specs.Lines.{longest_line, meaning}
use Rattle.ck_script.specs.Replies.{reply_text}
use Rattle.ck_script.specs.declared.line_errors.BadLine.{BadLine}
use Rattle.ck_script.specs.declared.lines.Line.TheVariants as line
use Rattle.ck_journal.specs.TokenStates.{TokenState}
use Rattle.ck_plays.specs.Devices.{Writing, wrote, failed_write, IsCount}
use Rattle.ck_plays.specs.Players.{HasPlayed, IsStopped, IsUnwritten, WriteFailed, IsReplied}
use Rattle.ck_plays.specs.Players.{PlayerState, IsLineRefused, next_number}
use Rattle.ck_plays.specs.Plays.{AreGood, called, history_after, output_of, replies_text, is_over}
use Rattle.ck_plays.specs.Plays.{is_bad}
use Rattle.ck_plays.specs.declared.faults.PlayFault.{PlayFault}
use Rattle.ck_plays.specs.declared.faults.PlayFault.TheVariants as fault
use Rattle.ck_plays.proofs.LineLemmas.{meaning-too_long, meaning-short}
use Rattle.ck_plays.proofs.ReplyLemmas.{history_after-line, AreGood-line}
use Rattle.ck_plays.proofs.WriteLemmas.{wrote-wrote}

count-next : (number n : ℕ) → IsCount number n → IsCount (next_number number) (suc n)
count-next number n e = grind arith

number-next : (lines : List (List ℕ)) (l : List ℕ) (number : ℕ)
    → IsCount number (suc (length lines))
    → IsCount (next_number number) (suc (length (lines ++ l ∷ [])))
number-next lines l number e =
    let one_more : length (lines ++ l ∷ []) ≡ suc (length lines) =
    length_push lines l ∙ add-one (length lines) in
    subst (λ (n : ℕ). IsCount (next_number number) (suc n)) (sym one_more)
    (count-next number (suc (length lines)) e)

-- a skipped line
pub answered-skipped : (limits : Ranges) (written : Writing) (lines : List (List ℕ)) (l : List ℕ)
    (token : TokenState) (number : ℕ) (P : Writing → Type 0)
    → Some line.Skipped ≡ meaning l → HasPlayed limits written lines token number P
    → HasPlayed limits written (lines ++ l ∷ []) token (next_number number) P
answered-skipped limits written lines l token number P is h =
    let same = history_after-line limits lines l (Some line.Skipped) is in
    record {
      same_limits = h.same_limits;
      history = h.history ∙ sym same;
      next_number = number-next lines l number h.next_number;
      good = AreGood-line lines l h.good (sym (ap is_bad is));
      writer = subst (λ (past : History). P (wrote written (replies_text past)))
          (sym same) h.writer;
    }

-- the reply to a call is that of the history of the lines before it
reply_is : (limits : Ranges) (lines : List (List ℕ)) (old : TokenState) (call : Call)
    → old.limits ≡ limits → old.history ≡ history_after limits lines
    → reply_text (answer old.limits old.history call)
    ≡ reply_text (answer limits (history_after limits lines) call)
reply_is limits lines old call e f =
    ap₂ (λ (r : Ranges) (past : History). reply_text (answer r past call)) e f

-- a line whose call is answered
pub answered-call : (limits : Ranges) (written : Writing) (lines : List (List ℕ)) (l : List ℕ)
    (old new : TokenState) (number : ℕ) (P Q : Writing → Type 0) (caller : ℕ) (call : Call)
    → Some (line.Called caller call) ≡ meaning l → IsReplied old new caller call P Q
    → HasPlayed limits written lines old number P
    → HasPlayed limits written (lines ++ l ∷ []) new (next_number number) Q
answered-call limits written lines l old new number P Q caller call is answered h =
    let next = history_after-line limits lines l (Some (line.Called caller call)) is in
    record {
      same_limits = answered.same_limits ∙ h.same_limits;
      history =
          answered.entered
          ∙ ap₂ (λ (r : Ranges) (past : History). called r past caller call) h.same_limits h.history
          ∙ sym next;
      next_number = number-next lines l number h.next_number;
      good = AreGood-line lines l h.good (sym (ap is_bad is));
      writer = subst Q
          (ap (wrote (wrote written (output_of limits lines)))
          (reply_is limits lines old call h.same_limits h.history)
          ∙ wrote-wrote written (output_of limits lines)
          (reply_text (answer limits (history_after limits lines) call))
          ∙ ap (λ (past : History). wrote written (replies_text past)) (sym next))
          (answered.writer (wrote written (output_of limits lines)) h.writer);
    }

-- where playing stops at a line behind those that are answered
module _ (limits : Ranges) (written : Writing) (lines later : List (List ℕ)) (ended : Bool)
    (l : List ℕ) where
  -- the line is bad
  stopped-line : (token : TokenState) (number n : ℕ) (reason : BadLine) (P : Writing → Type 0)
      → n ≡ number → is_bad (meaning l) ≡ true
      → (is_over later ended ≡ true) ⊎ (longest_line < length l)
      → HasPlayed limits written lines token number P
      → IsStopped limits written (lines ++ l ∷ later) ended (length lines) P (fault.Line n reason)
  stopped-line token number n reason P same refused over h = record {
    of_line = tt;
    output = output_of limits lines;
    writer = h.writer;
    outcome = record {
      before = lines;
      bad = l;
      later = later;
      parts = refl;
      good = h.good;
      refused = refused;
      bad_number = same ∙ h.next_number;
      over = over;
      on_time = omega arith;
      written = refl;
    };
  }

  -- the line means nothing
  pub stopped-bad : (token : TokenState) (number : ℕ) (reason : BadLine) (P : Writing → Type 0)
      → None ≡ meaning l → is_over later ended ≡ true
      → HasPlayed limits written lines token number P
      → IsStopped limits written (lines ++ l ∷ later) ended (length lines) P
      (fault.Line number reason)
  stopped-bad token number reason P is over h =
      stopped-line token number number reason P refl (sym (ap is_bad is)) (inl over) h

  -- there is no memory for the line
  pub stopped-memory : (P : Writing → Type 0) → length l ≤ longest_line → AreGood lines
      → P (wrote written (output_of limits lines))
      → IsStopped limits written (lines ++ l ∷ later) ended (length lines) P fault.Memory
  stopped-memory P short good writer = record {
    of_line = tt;
    output = output_of limits lines;
    writer = writer;
    outcome = record {
      before = lines;
      unanswered = l;
      later = later;
      parts = refl;
      good = good;
      short = short;
      on_time = omega arith;
      written = refl;
    };
  }

  -- the writing of the reply failed with a beginning of it written
  cut_off : (old : TokenState) (number : ℕ) (P Q : Writing → Type 0) (caller : ℕ) (call : Call)
      → Some (line.Called caller call) ≡ meaning l → is_over later ended ≡ true
      → HasPlayed limits written lines old number P
      → WriteFailed Q (wrote written (output_of limits lines))
      (reply_text (answer old.limits old.history call))
      → IsStopped limits written (lines ++ l ∷ later) ended (length lines) Q fault.Write
  cut_off old number P Q caller call is over h b = record {
    of_line = tt;
    output = output_of limits lines ++ b.part;
    writer = subst (λ (w : Writing). Q (failed_write w))
        (wrote-wrote written (output_of limits lines) b.part) b.writer;
    outcome = record {
      before = lines;
      cut = l;
      later = later;
      part = b.part;
      rest = b.rest;
      parts = refl;
      good = AreGood-line lines l h.good (sym (ap is_bad is));
      over = over;
      on_time = omega arith;
      written = refl;
      reply =
          ap replies_text (history_after-line limits lines l (Some (line.Called caller call)) is)
          ∙ ap (λ text. output_of limits lines ++ text)
          (sym (reply_is limits lines old call h.same_limits h.history) ∙ b.parts)
          ∙ sym (append_assoc (output_of limits lines) b.part b.rest);
    };
  }

  -- the reply wasn't written whole
  pub stopped-call : (old : TokenState) (number : ℕ) (P Q : Writing → Type 0) (caller : ℕ)
      (call : Call) (f : PlayFault)
      → Some (line.Called caller call) ≡ meaning l → is_over later ended ≡ true
      → HasPlayed limits written lines old number P
      → IsUnwritten Q (wrote written (output_of limits lines))
      (reply_text (answer old.limits old.history call)) f
      → IsStopped limits written (lines ++ l ∷ later) ended (length lines) Q f
  stopped-call old number P Q caller call (fault.Line n r) is over h u = absurd u
  stopped-call old number P Q caller call fault.Read is over h u = absurd u
  stopped-call old number P Q caller call fault.Write is over h u =
      cut_off old number P Q caller call is over h u
  stopped-call old number P Q caller call fault.Memory is over h u =
      stopped-memory Q (meaning-short l (line.Called caller call) is) h.good u
  stopped-call old number P Q caller call fault.Turns is over h u = absurd u

  -- the line can't be kept
  pub stopped-extend_open_line : (token : TokenState) (number : ℕ) (P : Writing → Type 0)
      (f : PlayFault) → IsLineRefused number l f → HasPlayed limits written lines token number P
      → IsStopped limits written (lines ++ l ∷ later) ended (length lines) P f
  stopped-extend_open_line token number P (fault.Line n reason) r h =
      stopped-line token number n reason P r.0 (ap is_bad (meaning-too_long l r.1)) (inr r.1) h
  stopped-extend_open_line token number P fault.Read r h = absurd r
  stopped-extend_open_line token number P fault.Write r h = absurd r
  stopped-extend_open_line token number P fault.Memory r h = stopped-memory P r h.good h.writer
  stopped-extend_open_line token number P fault.Turns r h = absurd r

-- what isn't taken of a player's open line, by its parts and by the player
pub refused-same : (p q : PlayerState) (piece : List ℕ) (f : PlayFault) → p ≡ q
    → IsLineRefused p.number (p.open_line ++ piece) f
    → IsLineRefused q.number (q.open_line ++ piece) f
refused-same p q piece f same r =
    subst (λ (s : PlayerState). IsLineRefused s.number (s.open_line ++ piece) f) same r

-- the same fault, of the same lines
pub stopped-same : (limits : Ranges) (written : Writing) (all lines : List (List ℕ)) (ended : Bool)
    (earlier : ℕ) (P : Writing → Type 0) (f g : PlayFault)
    → all ≡ lines → f ≡ g → IsStopped limits written lines ended earlier P g
    → IsStopped limits written all ended earlier P f
stopped-same limits written all lines ended earlier P f g e same h =
    subst (λ (ls : List (List ℕ)). IsStopped limits written ls ended earlier P f) (sym e)
    (subst (IsStopped limits written lines ended earlier P) (sym same) h)

-- fewer earlier lines
pub stopped-fewer : (limits : Ranges) (written : Writing) (lines : List (List ℕ)) (ended : Bool)
    (earlier fewer : ℕ) (P : Writing → Type 0) (f : PlayFault)
    → fewer ≤ earlier → IsStopped limits written lines ended earlier P f
    → IsStopped limits written lines ended fewer P f
stopped-fewer limits written lines ended earlier fewer P (fault.Line number reason) le h = record {
  of_line = tt;
  output = h.output;
  writer = h.writer;
  outcome = record {
    before = h.outcome.before;
    bad = h.outcome.bad;
    later = h.outcome.later;
    parts = h.outcome.parts;
    good = h.outcome.good;
    refused = h.outcome.refused;
    bad_number = h.outcome.bad_number;
    over = h.outcome.over;
    on_time = omega (arith, le, h.outcome.on_time);
    written = h.outcome.written;
  };
}
stopped-fewer limits written lines ended earlier fewer P fault.Read le h = absurd h.of_line
stopped-fewer limits written lines ended earlier fewer P fault.Write le h = record {
  of_line = tt;
  output = h.output;
  writer = h.writer;
  outcome = record {
    before = h.outcome.before;
    cut = h.outcome.cut;
    later = h.outcome.later;
    part = h.outcome.part;
    rest = h.outcome.rest;
    parts = h.outcome.parts;
    good = h.outcome.good;
    over = h.outcome.over;
    on_time = omega (arith, le, h.outcome.on_time);
    written = h.outcome.written;
    reply = h.outcome.reply;
  };
}
stopped-fewer limits written lines ended earlier fewer P fault.Memory le h = record {
  of_line = tt;
  output = h.output;
  writer = h.writer;
  outcome = record {
    before = h.outcome.before;
    unanswered = h.outcome.unanswered;
    later = h.outcome.later;
    parts = h.outcome.parts;
    good = h.outcome.good;
    short = h.outcome.short;
    on_time = omega (arith, le, h.outcome.on_time);
    written = h.outcome.written;
  };
}
stopped-fewer limits written lines ended earlier fewer P fault.Turns le h = absurd h.of_line
