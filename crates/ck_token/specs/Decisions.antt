-- What is decided of a call
use Rattle.std.specs.Prelude.{◌≡◌, ℕ, Bool, true, ◌&&◌, [], ◌∷◌, Option, Some, None, Result}
use Rattle.std.specs.Prelude.{Ok, Err, is_none}
use Rattle.ck_types.specs.Checks.{first_of}
use Rattle.ck_types.specs.TokenLimits.{Ranges}
use Rattle.ck_types.specs.declared.errors.RvError.{RvError}
use Rattle.ck_types.specs.declared.users.UserType.{UserType}
use Rattle.ck_objects.specs.declared.object_flags.Placement.{Placement}
use Rattle.ck_journal.specs.declared.calls.Call.{Call}
use Rattle.ck_journal.specs.declared.replies.Body.{Body}
use Rattle.ck_journal.specs.declared.replies.Reply.{Reply}
use Rattle.ck_journal.specs.Answers.{call_error, allowed_reply, placement_error, creations_error}
use Rattle.ck_journal.specs.Histories.{History}
use Rattle.ck_journal.specs.MemoryNeeds.{may_take_memory}
use Rattle.ck_journal.specs.Pins.{about}
use Rattle.ck_parts.specs.Changes.{change_of, wrong_try_change, refused_change}
use Rattle.ck_parts.specs.declared.changes.Change.{Change}
use Rattle.ck_token.specs.declared.decisions.Decision.{Decision}
use Rattle.ck_token.specs.declared.decisions.Refused.{Refused}
use Rattle.ck_token.specs.declared.decisions.Refused.TheVariants as refused

-- a check of a call about this user: it passes, or it fails with this error and with what the
-- refusal changes
abbrev pub IsCheckAbout :
    {T : Type 0} → Option UserType → Option RvError → Result T Refused → Type 0
IsCheckAbout who error (Ok found) = error ≡ None
IsCheckAbout who error (Err (refused.Error code change)) =
    (error ≡ Some code) × (change ≡ wrong_try_change code who)
IsCheckAbout who error (Err refused.Memory) = ⊥

-- the last checks of a call that makes an object of this placement
abbrev pub addition_error : Ranges → History → ℕ → Placement → Option RvError
addition_error limits h session placement = first_of (
    placement_error h session placement
    ∷ creations_error limits h
    ∷ [])

-- the reply that is decided
abbrev pub reply_of : Decision → Reply
reply_of decision = record { rv = decision.rv; body = decision.body }

-- the checks pass, and this is the reply and the change; or they don't, and this is the code of the
-- first that fails and its change; or they pass and there is no memory for the call, which may take
-- some
abbrev pub IsDecided :
    Option RvError → Reply → (Body → Change) → (RvError → Change) → Bool
    → Result Decision Refused → Type 0
IsDecided error reply made refusing memory (Ok decision) =
    (error ≡ None) × (reply_of decision ≡ reply) × (decision.change ≡ made decision.body)
IsDecided error reply made refusing memory (Err (refused.Error code change)) =
    (error ≡ Some code) × (change ≡ refusing code)
IsDecided error reply made refusing memory (Err refused.Memory) =
    (is_none error && memory) ≡ true

-- the call is decided as the history says
abbrev pub IsDecision : Ranges → History → Call → Result Decision Refused → Type 0
IsDecision limits h c result =
    IsDecided (call_error limits h c) (allowed_reply limits h c) (λ b. change_of h c b)
    (λ code. refused_change c code (about h (Some c))) (may_take_memory h c) result
