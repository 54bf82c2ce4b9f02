-- One more entry, with parts that carry out its change
use Rattle.std.proofs.Common.{◌≡◌, ℕ, refl, sym, ap, ◌∙◌, subst}
use Rattle.ck_types.specs.TokenLimits.{Ranges}
use Rattle.ck_journal.specs.declared.calls.Call.{Call}
use Rattle.ck_journal.specs.declared.calls.Entry.{Entry}
use Rattle.ck_journal.specs.declared.replies.Reply.{Reply}
use Rattle.ck_journal.specs.Answers.{IsLegal, answer}
use Rattle.ck_journal.specs.Histories.{History, ◌◁◌}
use Rattle.ck_parts.specs.Agreement.{PartsAgree}
use Rattle.ck_token.specs.Agreement.{TokenAgrees}
use Rattle.ck_parts.specs.Changes.{effect}
use Rattle.ck_parts.specs.declared.changes.Change.{Change}
use Rattle.ck_parts.specs.declared.parts.Parts.{Parts}

pub entered-agrees : (limits : Ranges) (h : History) (p : Parts) → TokenAgrees limits h p
    → (caller : ℕ) (c : Call) (reply entered : Reply)
    (made : Change) (p' : Parts) (after : History) → reply ≡ answer limits h c → entered ≡ reply
    → made ≡ effect h c reply
    → after ≡ record { caller = caller; call = c; reply = entered } ◁ h
    → ((e : Entry) → IsLegal limits (e ◁ h) → made ≡ effect h e.call e.reply → c ≡ e.call
    → PartsAgree (e ◁ h) p')
    → TokenAgrees limits after p'
entered-agrees limits h p agree caller c reply entered made p' after answered copy is same applied =
    let e : Entry = record { caller = caller; call = c; reply = entered } in
    let legal : IsLegal limits (e ◁ h) = (copy ∙ answered, agree.legal) in
    subst (λ h. TokenAgrees limits h p') (sym same)
    (record {
      ranges = agree.ranges;
      legal = legal;
      parts = applied e legal (is ∙ ap (effect h c) (sym copy)) refl;
    })
