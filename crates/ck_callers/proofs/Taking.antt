-- Steps of a caller, one after the other
use Rattle.std.proofs.Common.{◌≡◌, ℕ, ◌<◌, List, [], ◌∷◌, Option, Some, None, sym, ap, ◌∙◌, subst}
use Rattle.std.proofs.Common.{arith}
use Rattle.std.specs.Prelude.{Result, Ok, Err, IfSome}
use Rattle.ck_types.specs.TokenLimits.{Ranges}
use Rattle.ck_types.specs.declared.memory.NoMemory.{NoMemory}
use Rattle.ck_journal.specs.Answers.{answer}
use Rattle.ck_journal.specs.Callers.{entries_by}
use Rattle.ck_journal.specs.Fronts.{IsFront}
use Rattle.ck_journal.specs.Histories.{entry_count, entry_at}
use Rattle.ck_journal.specs.declared.calls.Call.{Call}
use Rattle.ck_journal.specs.declared.replies.Reply.{Reply}
use Rattle.ck_journal.proofs.FrontLemmas.{front_trans}
use Rattle.ck_callers.specs.Asks.{call_of_ask, reply_of_status}
use Rattle.ck_callers.specs.Callers.{CallerState, HasCalled, entry_by}
use Rattle.ck_callers.specs.declared.asks.Ask.{Ask}
use Rattle.ck_callers.specs.declared.asks.Status.{Status}
use Rattle.ck_callers.specs.NextSteps.{EndsAt, HasMade}
use Rattle.ck_callers.specs.Scripts.{entries_after, HasMadeCalls}
use Rattle.ck_callers.specs.Steps.{HasAsked, HasStepped, HasTaken, IsCall, Rises, AreAnswersIn}
use Rattle.ck_callers.specs.Steps.{calls_of, replies_of, front_at}
use Rattle.ck_callers.specs.declared.steps.Answered.{Answered}
use Rattle.ck_callers.specs.declared.steps.Answered.TheVariants as answered
use Rattle.ck_callers.specs.declared.steps.Step.{Step}
use Rattle.ck_callers.specs.declared.steps.Step.TheVariants as step
use Rattle.ck_callers.proofs.KnownLemmas.{longer_front}
use Rattle.ck_callers.proofs.EntryNumbers.{entry_at-front, front_at-front}
use Rattle.ck_callers.proofs.MakingCalls.{made_no_calls, made_call}

-- ---- where no step is answered

calls_end : (steps : List Step) (outcome : Result (Unit {0}) NoMemory) → EndsAt IsCall steps outcome
    → EndsAt (λ (call : Call). Unit {0}) (calls_of steps) outcome
calls_end steps (Ok done) end = ap calls_of end
calls_end [] (Err none) end = end
calls_end (step.Call call ∷ steps) (Err none) end = tt
calls_end (step.Ask ask ∷ steps) (Err none) end = absurd end

taken_none : (limits : Ranges) (old : CallerState) (steps : List Step)
    (outcome : Result (Unit {0}) NoMemory)
    (new : CallerState) → new ≡ old → EndsAt IsCall steps outcome
    → HasTaken limits old steps [] outcome new
taken_none limits old steps outcome new same end = record {
  calls = made_no_calls old (λ call. Unit {0}) (calls_of steps) outcome new same
      (calls_end steps outcome end);
  numbers = ap (λ c. entry_count c.seen) (sym same);
  are_answers = tt;
  end = end;
}

module _ (limits : Ranges) (old : CallerState) (now : CallerState) (n : ℕ)
    (length_is : n ≡ entry_count now.seen)
    (steps : List Step) (answers : List Answered) (outcome : Result (Unit {0}) NoMemory)
    (new : CallerState)
    (rest : HasTaken limits now steps answers outcome new) where
  rises_rest : Rises n answers (entry_count new.seen)
  rises_rest = subst (λ m. Rises m answers (entry_count new.seen)) (sym length_is) rest.numbers

  -- ---- a call

  module _ (call : Call) (reply : Reply) (does : HasCalled limits old call reply now) where
    rises_reply : entry_count old.seen < n
    rises_reply =
        let longer = longer_front old.seen does.before does.front in
        let next = ap entry_count does.next in omega arith

    reply_is : entry_at new.seen n ≡ Some (entry_by old.number call reply)
    reply_is =
        ap (entry_at new.seen) (length_is ∙ ap entry_count does.next)
        ∙ entry_at-front (entry_by old.number call reply) does.before new.seen
        (subst (λ h. IsFront h new.seen) does.next rest.calls.front)

    taken_call : HasTaken limits old (step.Call call ∷ steps) (answered.Reply reply n ∷ answers)
        outcome new
    taken_call = record {
      calls = made_call limits old call reply now does (calls_of steps) (replies_of answers)
          outcome new rest.calls;
      numbers = (rises_reply, rises_rest);
      are_answers = (
        reply_is,
        subst (λ k. AreAnswersIn limits k new.seen steps answers)
            does.number rest.are_answers,
      );
      end = rest.end;
    }

  -- ---- a question

  module _ (ask : Ask) (status : Option Status) (does : HasAsked limits old ask status now) where
    same_number : now.number ≡ old.number
    same_number = ap (λ c. c.number) does.same

    made_beside_ask : HasMadeCalls old (calls_of steps) (replies_of answers) outcome new
    made_beside_ask =
        let count : now.count ≡ old.count = ap (λ c. c.count) does.same in record {
          number = rest.calls.number ∙ same_number;
          count = omega (arith, rest.calls.count);
          front = front_trans old.seen now.seen new.seen does.front rest.calls.front;
          own = subst (λ k. entries_by k new.last
              ≡ entries_after k (calls_of steps) (replies_of answers) (entries_by k now.last))
              same_number rest.calls.own
              ∙ ap (λ h. entries_after old.number (calls_of steps) (replies_of answers)
              (entries_by old.number h))
              (ap (λ c. c.last) does.same);
          made = rest.calls.made;
        }

    status_is : IfSome status (λ s. reply_of_status s ≡ answer limits (front_at new.seen n)
        (call_of_ask ask))
    status_is =
        subst (λ h. IfSome status (λ s. reply_of_status s ≡ answer limits h (call_of_ask ask)))
        (sym (ap (front_at new.seen) length_is ∙ front_at-front now.seen new.seen rest.calls.front))
        does.answer

    taken_ask : Rises (entry_count old.seen) (answered.Status status n ∷ answers)
        (entry_count new.seen)
        → HasTaken limits old (step.Ask ask ∷ steps) (answered.Status status n ∷ answers) outcome
        new
    taken_ask rises = record {
      calls = made_beside_ask;
      numbers = rises;
      are_answers = (
        status_is,
        subst (λ k. AreAnswersIn limits k new.seen steps answers)
            same_number rest.are_answers,
      );
      end = rest.end;
    }

  taken_asked : (ask : Ask) (status : Option Status) → HasAsked limits old ask status now
      → HasTaken limits old (step.Ask ask ∷ steps) (answered.Status status n ∷ answers) outcome new
  taken_asked ask (Some s) does =
      let longer = longer_front old.seen now.seen does.front in taken_ask ask (Some s) does
      (omega arith, rises_rest)
  taken_asked ask None does =
      taken_ask ask None does (
        ap (λ c. entry_count c.seen) (sym does.unchanged)
            ∙ sym length_is,
        rises_rest,
      )

module _ (limits : Ranges) where
  -- steps that were made one after the other were taken
  pub taken : (old : CallerState) (steps : List Step) (answers : List Answered)
      (outcome : Result (Unit {0}) NoMemory)
      (new : CallerState) → HasMade (HasStepped limits) IsCall old steps answers outcome new
      → HasTaken limits old steps answers outcome new
  taken old steps [] outcome new made = taken_none limits old steps outcome new made.0 made.1
  taken old [] (a ∷ answers) outcome new made = absurd made
  taken old (step.Call call ∷ steps) (answered.Reply reply n ∷ answers) outcome new made =
      taken_call limits old made.0 n made.1.1 steps answers outcome new
      (taken made.0 steps answers outcome new made.2)
      call reply made.1.0
  taken old (step.Call call ∷ steps) (answered.Status status n ∷ answers) outcome new made =
      absurd made.1
  taken old (step.Ask ask ∷ steps) (answered.Reply reply n ∷ answers) outcome new made =
      absurd made.1
  taken old (step.Ask ask ∷ steps) (answered.Status status n ∷ answers) outcome new made =
      taken_asked limits old made.0 n made.1.1 steps answers outcome new
      (taken made.0 steps answers outcome new made.2)
      ask status made.1.0
