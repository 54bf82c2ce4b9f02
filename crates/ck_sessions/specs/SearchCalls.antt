-- Calls that set a session's search
use Rattle.std.specs.Prelude.{◌≡◌, ℕ, false, ◌==◌, ◌&&◌, List, Option, Some, None, is_some, is_none}
use Rattle.ck_journal.specs.declared.calls.Call.{Call}
use Rattle.ck_journal.specs.Histories.{History}
use Rattle.ck_journal.specs.Effects.{effects_of}
use Rattle.ck_journal.specs.OperationCalls.{operation_step}
use Rattle.ck_journal.specs.Searches.{starts_search, ends_search, asks_search}
use Rattle.ck_journal.specs.Searches.{matching_objects, search_template}

-- in this session, the call starts the search that finds these objects, or ends the search; it does
-- nothing else
pub record SetsSearch (h : History) (c : Call) (session : ℕ) (found : Option (List ℕ))
    : Type 0 where
  pub starts : (s : ℕ) → starts_search (Some c) s ≡ (is_some found && session == s)
  pub ends : (s : ℕ) → ends_search (Some c) s ≡ (is_none found && session == s)
  pub finds : (numbers : List ℕ) → found ≡ Some numbers
      → numbers ≡ matching_objects h (search_template (Some c))
  pub asks : (s : ℕ) → asks_search (Some c) s ≡ false
  pub sessions : (effects_of (Some c)).sessions ≡ false
  pub objects : (effects_of (Some c)).objects ≡ false
  pub operations : (effects_of (Some c)).operations ≡ false
  pub step : operation_step c ≡ None
