-- Steps of a caller, which are calls and questions, and what is answered to them
use Rattle.std.specs.Prelude.{◌≡◌, ◌==◌, ℕ, suc, ◌<◌, ◌≤◌, List, [], ◌∷◌, length, drop}
use Rattle.std.specs.Prelude.{Option, Some, None, IfSome, IfNone, Result, if◌then◌else◌}
use Rattle.ck_types.specs.TokenLimits.{Ranges}
use Rattle.ck_types.specs.declared.memory.NoMemory.{NoMemory}
use Rattle.ck_journal.specs.Answers.{answer}
use Rattle.ck_journal.specs.Fronts.{IsFront}
use Rattle.ck_journal.specs.Histories.{History, start, ◌◁◌, entry_count, entry_at}
use Rattle.ck_journal.specs.declared.calls.Call.{Call}
use Rattle.ck_journal.specs.declared.replies.Reply.{Reply}
use Rattle.ck_callers.specs.Asks.{call_of_ask, reply_of_status}
use Rattle.ck_callers.specs.Callers.{CallerState, HasCalled, entry_by}
use Rattle.ck_callers.specs.declared.asks.Ask.{Ask}
use Rattle.ck_callers.specs.declared.asks.Status.{Status}
use Rattle.ck_callers.specs.NextSteps.{EndsAt}
use Rattle.ck_callers.specs.Scripts.{HasMadeCalls}
use Rattle.ck_callers.specs.declared.steps.Answered.{Answered}
use Rattle.ck_callers.specs.declared.steps.Answered.TheVariants as answered
use Rattle.ck_callers.specs.declared.steps.Step.{Step}
use Rattle.ck_callers.specs.declared.steps.Step.TheVariants as step

-- ---- one step

-- the caller has asked: it may know more, and what it was given is the answer of all that it knows
pub record HasAsked (limits : Ranges) (old : CallerState) (ask : Ask) (status : Option Status)
    (new : CallerState) : Type 0 where
  pub same : new ≡ record old { seen = new.seen }
  pub front : IsFront old.seen new.seen
  pub answer : IfSome status (λ s. reply_of_status s ≡ answer limits new.seen (call_of_ask ask))
  pub unchanged : IfNone status (new ≡ old)

-- the caller has taken the step, and the number is the length of the history that it then knows
abbrev pub HasStepped : Ranges → CallerState → Step → Answered → CallerState → Type 0
HasStepped limits old (step.Call call) (answered.Reply reply n) new =
    HasCalled limits old call reply new × (n ≡ entry_count new.seen)
HasStepped limits old (step.Ask ask) (answered.Status status n) new =
    HasAsked limits old ask status new × (n ≡ entry_count new.seen)
HasStepped limits old other reply new = ⊥

abbrev pub IsCall : Step → Type 0
IsCall (step.Call call) = Unit {0}
IsCall (step.Ask ask) = ⊥

-- ---- all steps

abbrev pub calls_of : List Step → List Call
calls_of [] = []
calls_of (step.Call call ∷ steps) = call ∷ calls_of steps
calls_of (step.Ask ask ∷ steps) = calls_of steps

abbrev pub replies_of : List Answered → List Reply
replies_of [] = []
replies_of (answered.Reply reply n ∷ answers) = reply ∷ replies_of answers
replies_of (answered.Status status n ∷ answers) = replies_of answers

-- the front of a history that has n entries
abbrev pub front_at : History → ℕ → History
front_at (start b) n = start b
front_at (e ◁ h) n = if n == suc (entry_count h) then e ◁ h else front_at h n

-- a reply is that of the entry of its number, and a status is the answer on the front of its length
abbrev pub IsAnswerIn : Ranges → ℕ → History → Step → Answered → Type 0
IsAnswerIn limits caller h (step.Call call) (answered.Reply reply n) =
    entry_at h n ≡ Some (entry_by caller call reply)
IsAnswerIn limits caller h (step.Ask ask) (answered.Status status n) =
    IfSome status (λ s. reply_of_status s ≡ answer limits (front_at h n) (call_of_ask ask))
IsAnswerIn limits caller h other reply = ⊥

-- these are the answers to the first of the steps
abbrev pub AreAnswersIn : Ranges → ℕ → History → List Step → List Answered → Type 0
AreAnswersIn limits caller h steps [] = Unit {0}
AreAnswersIn limits caller h [] (a ∷ answers) = ⊥
AreAnswersIn limits caller h (s ∷ steps) (a ∷ answers) =
    IsAnswerIn limits caller h s a × AreAnswersIn limits caller h steps answers

-- the numbers of the answers go from the first number to the last: that of a reply is larger than
-- the one before, that of a status no smaller, and where there is no status it is the same
abbrev pub Rises : ℕ → List Answered → ℕ → Type 0
Rises n [] last = n ≡ last
Rises n (answered.Reply reply m ∷ answers) last = (n < m) × Rises m answers last
Rises n (answered.Status (Some status) m ∷ answers) last = (n ≤ m) × Rises m answers last
Rises n (answered.Status None m ∷ answers) last = (n ≡ m) × Rises m answers last

-- the caller has taken the steps in their order, all of them or those before the first call that
-- found no memory: each answer stands in the history that the caller then knows
pub record HasTaken (limits : Ranges) (old : CallerState) (steps : List Step)
    (answers : List Answered) (outcome : Result (Unit {0}) NoMemory) (new : CallerState)
    : Type 0 where
  pub calls : HasMadeCalls old (calls_of steps) (replies_of answers) outcome new
  pub numbers : Rises (entry_count old.seen) answers (entry_count new.seen)
  pub are_answers : AreAnswersIn limits old.number new.seen steps answers
  pub end : EndsAt IsCall (drop (length answers) steps) outcome
