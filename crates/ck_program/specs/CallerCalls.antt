-- The calls of each caller of a script, and what comes of them
use Rattle.std.specs.Prelude.{◌≡◌, ◌==◌, ℕ, Bool, true, List, [], ◌∷◌, Ok, length, map}
use Rattle.std.specs.Prelude.{if◌then◌else◌, is_err, vec_items}
use Rattle.ck_journal.specs.Bases.{empty_base}
use Rattle.ck_journal.specs.Callers.{entries_by}
use Rattle.ck_journal.specs.Fronts.{IsFront}
use Rattle.ck_journal.specs.Histories.{History, start}
use Rattle.ck_journal.specs.declared.calls.Call.{Call}
use Rattle.ck_journal.specs.declared.replies.Reply.{Reply}
use Rattle.ck_callers.specs.Callers.{CallerState}
use Rattle.ck_callers.specs.Scripts.{entries_after}
use Rattle.ck_callers.specs.declared.scripts.Script.{Script}

-- the calls of a caller, in their order
abbrev pub calls_by : ℕ → List (ℕ × Call) → List Call
calls_by number [] = []
calls_by number (c ∷ calls) =
    if c.0 == number then c.1 ∷ calls_by number calls else calls_by number calls

-- the caller's entries in the history are those of its calls: all of them, in their order
pub record HasEntriesOf (calls : List (ℕ × Call)) (number : ℕ) (h : History) : Type 0 where
  pub replies : List Reply
  pub own : entries_by number h ≡ entries_after number (calls_by number calls) replies []
  pub all : length replies ≡ length (calls_by number calls)

-- the callers' numbers, in their order
abbrev pub caller_numbers : List CallerState → List ℕ
caller_numbers callers = map (λ c. c.number) callers

-- those of the scripts' callers
abbrev pub script_numbers : {K : Type 0} → List (Script K Call Reply) → List ℕ
script_numbers scripts = map (λ s. s.caller.number) scripts

-- ---- of one caller

-- it has made no call, of a token that was new
abbrev pub IsNewCaller : CallerState → Type 0
IsNewCaller c = (entries_by c.number c.last ≡ []) × (c.seen ≡ start empty_base)

-- it has made all of its calls, of a token that was new
abbrev pub HasMadeAll : List (ℕ × Call) → CallerState → Type 0
HasMadeAll calls c = HasEntriesOf calls c.number c.last × IsFront (start empty_base) c.seen

-- the script is of its caller's calls, none of which is made
abbrev pub IsUnplayed : {K : Type 0} → List (ℕ × Call) → Script K Call Reply → Type 0
IsUnplayed calls s =
    (vec_items s.steps ≡ calls_by s.caller.number calls) × IsNewCaller s.caller

-- the script had a thread
abbrev pub HadThread : {K : Type 0} → Script K Call Reply → Type 0
HadThread s = s.started ≡ true

-- the script found no memory for one of its calls
abbrev pub lacked_memory : {K : Type 0} → Script K Call Reply → Bool
lacked_memory s = is_err s.outcome

-- the script was played: where it had a thread and that ended well, its caller has made all of its
-- calls
abbrev pub IsPlayedAll : {K : Type 0} → List (ℕ × Call) → Script K Call Reply → Type 0
IsPlayedAll calls s = HadThread s → s.outcome ≡ Ok tt → HasMadeAll calls s.caller
