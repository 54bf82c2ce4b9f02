-- What callers see of a token, and what one call does to it
use Rattle.std.specs.Prelude.{◌≡◌, ℕ, List, [], ◌∷◌}
use Rattle.ck_types.specs.TokenLimits.{Ranges}
use Rattle.ck_journal.specs.Answers.{answer, IsLegal}
use Rattle.ck_journal.specs.Histories.{History, ◌◁◌}
use Rattle.ck_journal.specs.declared.calls.Call.{Call}
use Rattle.ck_journal.specs.declared.calls.Entry.{Entry}
use Rattle.ck_journal.specs.declared.replies.Reply.{Reply}

-- its limits, the history of its journal, and for how many more entries the journal has room
pub record TokenState : Type 0 where
  pub limits : Ranges
  pub history : History
  pub spare : ℕ

-- the entry of a call that a token with these limits and this history answers
abbrev pub entry_of : Ranges → History → ℕ → Call → Entry
entry_of limits h caller call =
    record { caller = caller; call = call; reply = answer limits h call }

-- the call was answered as the history before it says, and exactly its entry was added
pub record IsAnswered (old new : TokenState) (caller : ℕ) (call : Call) (reply : Reply)
    : Type 0 where
  pub answered : reply ≡ answer old.limits old.history call
  pub limits : new.limits ≡ old.limits
  pub entered : new.history ≡ entry_of old.limits old.history caller call ◁ old.history

-- limits and history are as they were; the room for entries may differ
pub record IsUnchanged (old new : TokenState) : Type 0 where
  pub limits : new.limits ≡ old.limits
  pub history : new.history ≡ old.history

-- ---- lists of calls, each with its caller

-- the history, and then the entries of these calls, the first call first
abbrev pub after : Ranges → History → List (ℕ × Call) → History
after limits h [] = h
after limits h (c ∷ calls) = after limits (entry_of limits h c.0 c.1 ◁ h) calls

-- the token has answered these calls and no other, and its history is legal
pub record HasAnswered (old new : TokenState) (calls : List (ℕ × Call)) : Type 0 where
  pub limits : new.limits ≡ old.limits
  pub history : new.history ≡ after old.limits old.history calls
  pub legal : IsLegal new.limits new.history
