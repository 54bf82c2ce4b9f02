-- What was published, after one more entry
use Rattle.std.proofs.Common.{◌≡◌, Bool, true, if◌then◌else◌, Option, Some, None, IfNone, [], ◌∷◌}
use Rattle.std.proofs.Common.{refl, sym, ap, ◌∙◌, subst}
use Rattle.ck_journal.specs.Fronts.{IsFront}
use Rattle.ck_journal.specs.Histories.{History, ◌◁◌}
use Rattle.ck_journal.specs.declared.calls.Entry.{Entry}
use Rattle.ck_journal.proofs.FrontLemmas.{front_trans}
use Rattle.ck_callers.specs.KnownHistories.{KnownState, Covers}

pub if_none : {A : Type 0} {P Q : Type 0} (o : Option A) → IfNone o P → (P → Q) → IfNone o Q
if_none (Some x) p f = tt
if_none None p f = f p

-- what had the board of the known history has it where the newest call leaves the board
pub covered_on : (e : Entry) (leaves : Bool) (old new : KnownState)
    (h front was_shown shown : History)
    → leaves ≡ true → new.changed ≡ (if leaves then old.changed else front) → new.history ≡ front
    → front ≡ e ◁ h → old.history ≡ h → shown ≡ was_shown → Covers old was_shown → Covers new shown
covered_on e leaves old new h front was_shown shown left changed history next same published
    covers =
    let kept : new.changed ≡ old.changed = changed ∙ ap (λ b. if b then old.changed else front)
    left in (
      subst (λ c. IsFront c shown) (sym kept) (subst (IsFront old.changed) (sym published)
          covers.0),
      subst (λ g. IsFront g new.history) (sym published)
          (subst (IsFront was_shown) (sym (history ∙ next))
          (front_trans was_shown h (e ◁ h) (subst (IsFront was_shown) same covers.1)
          (e ∷ [], refl))),
    )
