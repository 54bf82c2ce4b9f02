-- What a cut of a token's journal does
use Rattle.std.specs.Prelude.{◌≡◌, ◌<◌, [], Result, Ok, Err, length}
use Rattle.ck_journal.specs.Cuts.{base_of}
use Rattle.ck_journal.specs.Histories.{JournalState, start}
use Rattle.ck_journal.specs.Sessions.{open_sessions}
use Rattle.ck_journal.specs.TokenStates.{TokenState}
use Rattle.ck_token.specs.declared.cuts.Uncut.{Uncut}
use Rattle.ck_token.specs.declared.cuts.Uncut.TheVariants as uncut

-- the journal is taken out, and a new one starts from the base that it leaves; where a session is
-- open, or there is no memory, nothing changes
abbrev pub IsCut : TokenState → TokenState → Result JournalState Uncut → Type 0
IsCut old new (Ok journal) =
    (open_sessions old.history ≡ []) × (journal.history ≡ old.history)
    × (new.limits ≡ old.limits) × (new.history ≡ start (base_of old.history))
IsCut old new (Err uncut.Session) = (0 < length (open_sessions old.history)) × (new ≡ old)
IsCut old new (Err uncut.Memory) = (open_sessions old.history ≡ []) × (new ≡ old)
