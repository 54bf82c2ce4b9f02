-- A caller, and what a call does to it
use Rattle.std.specs.Prelude.{◌≡◌, ℕ, zero, suc, ◌+◌, ◌==◌, ◌&&◌, Bool, true, List, ◌∷◌, map}
use Rattle.std.specs.List.{list_any}
use Rattle.ck_types.specs.TokenLimits.{Ranges}
use Rattle.ck_journal.specs.Answers.{IsLegal}
use Rattle.ck_journal.specs.Callers.{entries_by, call_count, call_counts}
use Rattle.ck_journal.specs.Fronts.{IsFront}
use Rattle.ck_journal.specs.Histories.{History, start, ◌◁◌}
use Rattle.ck_journal.specs.declared.bases.Base.{Base}
use Rattle.ck_journal.specs.declared.calls.Call.{Call}
use Rattle.ck_journal.specs.declared.calls.Entry.{Entry}
use Rattle.ck_journal.specs.declared.replies.Reply.{Reply}
use Rattle.ck_callers.specs.Accounts.{AccountState, new_accounts}

-- a caller's number, how many of its calls were answered, the history of its last reply, and the
-- longest history that it knows
pub record CallerState : Type 0 where
  pub number : ℕ
  pub count : ℕ
  pub last : History
  pub seen : History

-- the entry of a caller's call
abbrev pub entry_by : ℕ → Call → Reply → Entry
entry_by number call reply = record { caller = number; call = call; reply = reply }

-- the history ends with the entry of this call of the caller, who knows a front of the history
-- before it; the books are of the history before it
pub record IsNextCall (caller : CallerState) (books : List ℕ) (call : Call) (reply : Reply)
    (h : History) : Type 0 where
  pub before : History
  pub front : IsFront caller.seen before
  pub counted : books ≡ call_counts before
  pub next : h ≡ entry_by caller.number call reply ◁ before

-- the caller has made the call: it knows a legal history that goes on from all that it knew and
-- ends with the call, and has of the caller one entry more
pub record HasCalled (limits : Ranges) (old : CallerState) (call : Call) (reply : Reply)
    (new : CallerState) : Type 0 where
  pub number : new.number ≡ old.number
  pub count : new.count ≡ old.count + 1
  pub legal : IsLegal limits new.seen
  pub last : new.last ≡ new.seen
  pub before : History
  pub front : IsFront old.seen before
  pub next : new.seen ≡ entry_by old.number call reply ◁ before
  pub own : entries_by old.number new.seen
      ≡ entry_by old.number call reply ∷ entries_by old.number old.last

-- ---- all callers of a token

-- the caller that has this account, when it knows no more than the base
abbrev pub new_caller : Base → AccountState → CallerState
new_caller base account =
    record { number = account.number; count = account.count; last = start base; seen = start base }

-- the callers 1 to n before their first calls
abbrev pub new_callers : Base → ℕ → List CallerState
new_callers base n = map (new_caller base) (new_accounts n)

-- each of the numbers 1 to n is that of one of the callers
abbrev pub are_all : ℕ → List CallerState → Bool
are_all zero callers = true
are_all (suc n) callers = list_any (λ c. c.number == suc n) callers && are_all n callers

-- what the caller knows is a front of the history, whose entries of the caller are those of its
-- answered calls
pub record IsSettled (h : History) (c : CallerState) : Type 0 where
  pub front : IsFront c.seen h
  pub count : call_count c.number h ≡ c.count
  pub own : entries_by c.number h ≡ entries_by c.number c.last
