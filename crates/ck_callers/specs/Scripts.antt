-- Scripts of callers, and what is answered to their calls
use Rattle.std.specs.Prelude.{◌≡◌, ℕ, ◌+◌, ◌<◌, List, [], ◌∷◌, length, Result, MatchResult}
use Rattle.ck_types.specs.declared.memory.NoMemory.{NoMemory}
use Rattle.ck_journal.specs.Callers.{entries_by}
use Rattle.ck_journal.specs.Fronts.{IsFront}
use Rattle.ck_journal.specs.declared.calls.Call.{Call}
use Rattle.ck_journal.specs.declared.calls.Entry.{Entry}
use Rattle.ck_journal.specs.declared.replies.Reply.{Reply}
use Rattle.ck_callers.specs.Callers.{CallerState, entry_by}

-- a caller's entries, the newest first, after these replies to the first of these calls
abbrev pub entries_after : ℕ → List Call → List Reply → List Entry → List Entry
entries_after number calls [] before = before
entries_after number [] (reply ∷ replies) before = before
entries_after number (call ∷ calls) (reply ∷ replies) before =
    entries_after number calls replies (entry_by number call reply ∷ before)

-- the caller has made the calls in their order, all of them or those before the first that found no
-- memory: it goes on from all that it knew, and has one entry more for each reply
pub record HasMadeCalls (old : CallerState) (calls : List Call) (replies : List Reply)
    (outcome : Result (Unit {0}) NoMemory) (new : CallerState) : Type 0 where
  pub number : new.number ≡ old.number
  pub count : new.count ≡ old.count + length replies
  pub front : IsFront old.seen new.seen
  pub own : entries_by old.number new.last
      ≡ entries_after old.number calls replies (entries_by old.number old.last)
  pub made : MatchResult outcome (λ done. length replies ≡ length calls)
      (λ none. length replies < length calls)

-- after a reply the caller knows just the history of its last reply; without one it is as it was
abbrev pub KnowsItsLast : List Reply → CallerState → CallerState → Type 0
KnowsItsLast [] old new = new ≡ old
KnowsItsLast (reply ∷ replies) old new = new.last ≡ new.seen
