-- The calls of lines, one line after the other
use Rattle.std.proofs.Common.{◌≡◌, ℕ, suc, false, min, List, [], ◌∷◌, ◌++◌}
use Rattle.std.proofs.Common.{length, sym, ap, ◌∙◌, subst, arith, add-one}
use Rattle.std.proofs.Common.{append_assoc}
use Rattle.std.proofs.lemmas.List.{append-nil, length_push}
use Rattle.ck_journal.specs.declared.calls.Call.{Call}
use Rattle.ck_script.specs.Lines.{meaning}
use Rattle.ck_plays.specs.CallerScripts.{is_bad_for, AreGoodFor, AreCallsOf, IsRefusedFor}
use Rattle.ck_plays.specs.CallerScripts.{IsRefusedLine}
use Rattle.ck_plays.specs.Devices.{IsCount}
use Rattle.ck_plays.specs.Plays.{with_call}
use Rattle.ck_plays.specs.declared.faults.PlayFault.{PlayFault}
use Rattle.ck_plays.specs.declared.faults.PlayFault.TheVariants as fault
use Rattle.ck_plays.proofs.ReplyLemmas.{calls_in-append}

-- of all lines these come later, and those before have these calls
pub record HasCallsSoFar (callers : ℕ) (lines later : List (List ℕ)) (number : ℕ)
    (calls : List (ℕ × Call)) : Type 0 where
  pub before : List (List ℕ)
  pub parts : lines ≡ before ++ later
  pub number_of : IsCount number (suc (length before))
  pub so_far : AreCallsOf callers before calls

count-after : (number next n : ℕ) → next ≡ min (suc number) 18446744073709551615
    → IsCount number n → IsCount next (suc n)
count-after number next n e h = grind arith

AreGoodFor-line : (callers : ℕ) (lines : List (List ℕ)) (l : List ℕ) → AreGoodFor callers lines
    → is_bad_for callers (meaning l) ≡ false → AreGoodFor callers (lines ++ l ∷ [])
AreGoodFor-line callers [] l good this = (this, tt)
AreGoodFor-line callers (k ∷ lines) l good this =
    (good.0, AreGoodFor-line callers lines l good.1 this)

-- one more line
pub so_far-next : (callers : ℕ) (lines later more : List (List ℕ)) (l : List ℕ) (number next : ℕ)
    (calls longer : List (ℕ × Call))
    → HasCallsSoFar callers lines later number calls → later ≡ l ∷ more
    → next ≡ min (suc number) 18446744073709551615
    → is_bad_for callers (meaning l) ≡ false → longer ≡ calls ++ with_call (meaning l) []
    → HasCallsSoFar callers lines more next longer
so_far-next callers lines later more l number next calls longer h e f good added = record {
  before = h.before ++ l ∷ [];
  parts = h.parts ∙ ap (λ (ls : List (List ℕ)). h.before ++ ls) e
      ∙ sym (append_assoc h.before (l ∷ []) more);
  number_of = subst (λ (n : ℕ). IsCount next (suc n))
      (sym (length_push h.before l ∙ add-one (length h.before)))
      (count-after number next (suc (length h.before)) f h.number_of);
  so_far = record {
    good = AreGoodFor-line callers h.before l h.so_far.good good;
    all = added ∙ ap (λ (cs : List (ℕ × Call)). cs ++ with_call (meaning l) []) h.so_far.all
        ∙ sym (calls_in-append h.before (l ∷ []));
  };
}

-- no line comes later
pub so_far-all : (callers : ℕ) (lines : List (List ℕ)) (number : ℕ) (calls : List (ℕ × Call))
    → HasCallsSoFar callers lines [] number calls → AreCallsOf callers lines calls
so_far-all callers lines number calls h =
    subst (λ (ls : List (List ℕ)). AreCallsOf callers ls calls)
    (sym (h.parts ∙ append-nil h.before)) h.so_far

refused-at : (callers : ℕ) (lines later more : List (List ℕ)) (l : List ℕ) (number : ℕ)
    (calls : List (ℕ × Call)) (f : PlayFault)
    → HasCallsSoFar callers lines later number calls → later ≡ l ∷ more
    → IsRefusedLine callers (meaning l) number f → IsRefusedFor callers lines f
refused-at callers lines later more l number calls (fault.Line n reason) h e refused = record {
  before = h.before;
  bad = l;
  later = more;
  parts = h.parts ∙ ap (λ (ls : List (List ℕ)). h.before ++ ls) e;
  good = h.so_far.good;
  refused = refused.1;
  bad_number = subst (λ (k : ℕ). IsCount k (suc (length h.before))) (sym refused.0) h.number_of;
}
refused-at callers lines later more l number calls fault.Memory h e refused = tt
refused-at callers lines later more l number calls fault.Read h e refused = absurd refused
refused-at callers lines later more l number calls fault.Write h e refused = absurd refused
refused-at callers lines later more l number calls fault.Turns h e refused = absurd refused

-- a line that isn't taken
pub refused-line : (callers : ℕ) (lines later more : List (List ℕ)) (l : List ℕ) (number : ℕ)
    (calls : List (ℕ × Call)) (f g : PlayFault)
    → HasCallsSoFar callers lines later number calls → later ≡ l ∷ more → g ≡ f
    → IsRefusedLine callers (meaning l) number f → IsRefusedFor callers lines g
refused-line callers lines later more l number calls f g h e same refused =
    subst (IsRefusedFor callers lines) (sym same)
    (refused-at callers lines later more l number calls f h e refused)
