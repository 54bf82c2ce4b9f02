-- What happens to a journal: a call is answered, or the journal is cut, which leaves only a base
use Rattle.std.specs.Prelude.{◌≡◌, List, [], ◌∷◌}
use Rattle.ck_types.specs.TokenLimits.{Ranges}
use Rattle.ck_journal.specs.declared.calls.Entry.{Entry}
use Rattle.ck_journal.specs.Answers.{answer}
use Rattle.ck_journal.specs.Cuts.{base_of}
use Rattle.ck_journal.specs.Histories.{History, start, ◌◁◌}
use Rattle.ck_journal.specs.Laws.{IsSoundHistory}
use Rattle.ck_journal.specs.Sessions.{open_sessions}

pub data Event : Type 0 where
  answered : Entry → Event
  cut : Event

-- the history after these events, of which the newest stands first
abbrev pub after_events : History → List Event → History
after_events h [] = h
after_events h (answered e ∷ later) = e ◁ after_events h later
after_events h (cut ∷ later) = start (base_of (after_events h later))

-- every reply is the answer at the front just before it, and the journal is cut only where no
-- session is open
abbrev pub AreLegal : Ranges → History → List Event → Type 0
AreLegal limits h [] = Unit {0}
AreLegal limits h (answered e ∷ later) =
    (e.reply ≡ answer limits (after_events h later) e.call) × AreLegal limits h later
AreLegal limits h (cut ∷ later) =
    (open_sessions (after_events h later) ≡ []) × AreLegal limits h later

-- a sound history, and legal events after it
pub record AreSoundEvents (limits : Ranges) (h : History) (later : List Event) : Type 0 where
  pub good : IsSoundHistory limits h
  pub legal : AreLegal limits h later
