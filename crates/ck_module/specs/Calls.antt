-- What an export does whose call has no lists
use Rattle.std.specs.Prelude.{◌≡◌, ◌<◌, ℕ, false}
use Rattle.ck_journal.specs.declared.calls.Call.{Call}
use Rattle.ck_journal.specs.MemoryNeeds.{may_run_out}
use Rattle.ck_foreign.specs.Calls.{IsCalledBy}
use Rattle.ck_foreign.specs.declared.modules.Module.{Module}

-- the call was answered, or there was no memory for it; where the journal has room, it is answered
-- unless it may need other memory
abbrev pub IsCalledWithoutLists : ℕ → Call → ℕ → Module → Module → Type 0
IsCalledWithoutLists caller c number old new =
    IsCalledBy caller c number old new
    × (0 < old.token.spare → may_run_out old.token.limits old.token.history c ≡ false
    → number ≡ 0)
