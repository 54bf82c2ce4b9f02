-- How operations move by one entry
use Rattle.std.proofs.Common.{◌≡◌, ℕ, Bool, true, false, [], Option, Some, None, refl, ap, cond}
use Rattle.std.specs.Prelude.{is_some}
use Rattle.std.proofs.lemmas.Bool.{or_parts}
use Rattle.ck_journal.specs.declared.calls.Call.{Call}
use Rattle.ck_journal.specs.declared.calls.Call.TheVariants as call
use Rattle.ck_journal.specs.declared.calls.Entry.{Entry}
use Rattle.ck_journal.specs.declared.operations.OperationKind.{OperationKind}
use Rattle.ck_journal.specs.declared.replies.Reply.{Reply}
use Rattle.ck_journal.specs.Histories.{done, is_ok}
use Rattle.ck_journal.specs.Effects.{effects_of, effects}
use Rattle.ck_journal.specs.OperationCalls.{OperationStep, operation_step, step_in, piece_in}
use Rattle.ck_journal.specs.Operations.{starts, ends, finishes, cancels, piece_of}
use Rattle.ck_journal.specs.Operations.{is_initialization, ends_by}
use Rattle.ck_journal.specs.Sessions.{ends_operations}

ends_operations-left : (c : Option Call) (s : ℕ) → (effects_of c).operations ≡ false
    → ends_operations c s ≡ false
ends_operations-left (Some (call.CloseSession session)) s l = cc
ends_operations-left (Some call.CloseAllSessions) s l = cc
ends_operations-left (Some (call.Logout session)) s l = cc
ends_operations-left other s l = refl

cancels-left : (c : Option Call) (k : OperationKind) (s : ℕ) → (effects_of c).operations ≡ false
    → cancels c k s ≡ false
cancels-left (Some (call.SessionCancel session flags)) k s l = cc
cancels-left other k s l = refl

no-step : (o : Option OperationStep) → is_some o ≡ false → o ≡ None
no-step None e = refl
no-step (Some o) e = cc

-- a call that makes no step on an operation
module _ (c : Call) (idle : operation_step c ≡ None) (k : OperationKind) (s : ℕ) where
  pub starts_no_step : (ok : Bool) → starts (cond ok (Some c) None) k s ≡ false
  starts_no_step true = ap (λ o. is_initialization (step_in o k s)) idle
  starts_no_step false = refl

  pub adds_no_step : (ok : Bool) → piece_of (cond ok (Some c) None) k s ≡ []
  adds_no_step true = ap (λ o. piece_in (step_in o k s)) idle
  adds_no_step false = refl

  pub finishes_no_step : (reply : Reply) → finishes c k reply s ≡ false
  finishes_no_step reply = ap (λ o. ends_by (step_in o k s) reply) idle

-- an entry that leaves operations as they are
module _ (e : Entry) (l : (effects e).operations ≡ false) (k : OperationKind) (s : ℕ) where
  both : ((effects_of (done e)).operations ≡ false) × (operation_step e.call ≡ None)
  both =
      let two = or_parts (effects_of (done e)).operations (is_some (operation_step e.call)) l in
      (two.0, no-step (operation_step e.call) two.1)

  pub starts_none : starts (done e) k s ≡ false
  starts_none = starts_no_step e.call both.1 k s (is_ok e.reply.rv)

  pub ends_none : ends k e s ≡ false
  ends_none =
      rw (ends_operations-left (done e) s both.0, cancels-left (done e) k s both.0)
      (finishes_no_step e.call both.1 k s e.reply)

  pub adds_none : piece_of (done e) k s ≡ []
  adds_none = adds_no_step e.call both.1 k s (is_ok e.reply.rv)
