-- Calls of a caller, one after the other
use Rattle.std.proofs.Common.{◌≡◌, ℕ, suc, ◌<◌, List, [], ◌∷◌, length, sym, ap, ◌∙◌, subst, arith}
use Rattle.std.specs.Prelude.{Result, Ok, Err, MatchResult}
use Rattle.ck_types.specs.TokenLimits.{Ranges}
use Rattle.ck_types.specs.declared.memory.NoMemory.{NoMemory}
use Rattle.ck_journal.specs.Callers.{entries_by}
use Rattle.ck_journal.specs.Fronts.{IsFront}
use Rattle.ck_journal.specs.declared.calls.Call.{Call}
use Rattle.ck_journal.specs.declared.replies.Reply.{Reply}
use Rattle.ck_journal.proofs.FrontLemmas.{front_refl, front_trans}
use Rattle.ck_callers.specs.Callers.{CallerState, HasCalled, entry_by}
use Rattle.ck_callers.specs.NextSteps.{EndsAt, HasMade}
use Rattle.ck_callers.specs.Scripts.{entries_after, HasMadeCalls, KnowsItsLast}

none_made : (MayFail : Call → Type 0) (calls : List Call) (outcome : Result (Unit {0}) NoMemory)
    → EndsAt MayFail calls outcome
    → MatchResult outcome (λ done. length {A = Reply} [] ≡ length calls)
    (λ none. length {A = Reply} [] < length calls)
none_made MayFail calls (Ok done) end = ap length (sym end)
none_made MayFail [] (Err none) end = absurd end
none_made MayFail (c ∷ calls) (Err none) end = omega arith

one_more_made : (outcome : Result (Unit {0}) NoMemory) (m n : ℕ)
    → MatchResult outcome (λ done. m ≡ n) (λ none. m < n)
    → MatchResult outcome (λ done. suc m ≡ suc n) (λ none. suc m < suc n)
one_more_made (Ok done) m n made = omega arith
one_more_made (Err none) m n made = omega arith

pub made_no_calls : (old : CallerState) (MayFail : Call → Type 0) (calls : List Call)
    (outcome : Result (Unit {0}) NoMemory) (new : CallerState) → new ≡ old
    → EndsAt MayFail calls outcome
    → HasMadeCalls old calls [] outcome new
made_no_calls old MayFail calls outcome new same end =
    let count : new.count ≡ old.count = ap (λ c. c.count) same in record {
      number = ap (λ c. c.number) same;
      count = omega arith;
      front = subst (λ c. IsFront old.seen c.seen) (sym same) (front_refl old.seen);
      own = ap (λ c. entries_by old.number c.last) same;
      made = none_made MayFail calls outcome end;
    }

module _ (limits : Ranges) (old : CallerState) (call : Call) (reply : Reply) (now : CallerState)
    (does : HasCalled limits old call reply now) where
  pub front_called : IsFront old.seen now.seen
  front_called = front_trans old.seen does.before now.seen does.front
      (entry_by old.number call reply ∷ [], does.next)

  own_one : entries_by old.number now.last ≡ entry_by old.number call reply
      ∷ entries_by old.number old.last
  own_one = ap (entries_by old.number) does.last ∙ does.own

  -- after this call the caller knows just the history of its last reply, also where no later call
  -- was answered
  pub knows_one : (replies : List Reply) (new : CallerState) → KnowsItsLast replies now new
      → new.last ≡ new.seen
  knows_one [] new same = subst (λ (c : CallerState). c.last ≡ c.seen) (sym same) does.last
  knows_one (r ∷ rs) new known = known

  pub made_call : (calls : List Call) (replies : List Reply)
      (outcome : Result (Unit {0}) NoMemory)
      (new : CallerState) → HasMadeCalls now calls replies outcome new
      → HasMadeCalls old (call ∷ calls) (reply ∷ replies) outcome new
  made_call calls replies outcome new rest = record {
    number = rest.number ∙ does.number;
    count = omega (arith, rest.count, does.count);
    front = front_trans old.seen now.seen new.seen front_called rest.front;
    own = subst (λ n. entries_by n new.last ≡ entries_after n calls replies (entries_by n now.last))
        does.number rest.own
        ∙ ap (entries_after old.number calls replies) own_one;
    made = one_more_made outcome (length replies) (length calls) rest.made;
  }

module _ (limits : Ranges) where
  -- calls that were made one after the other
  pub made_calls : (old : CallerState) (calls : List Call) (replies : List Reply)
      (outcome : Result (Unit {0}) NoMemory)
      (new : CallerState) → HasMade (HasCalled limits) (λ call. Unit {0}) old calls replies outcome
      new
      → HasMadeCalls old calls replies outcome new
  made_calls old calls [] outcome new made =
      made_no_calls old (λ call. Unit {0}) calls outcome new made.0 made.1
  made_calls old [] (reply ∷ replies) outcome new made = absurd made
  made_calls old (call ∷ calls) (reply ∷ replies) outcome new made =
      made_call limits old call reply made.0 made.1 calls replies outcome new
      (made_calls made.0 calls replies outcome new made.2)

  -- the history of the last reply is what the caller knows
  pub knows_last : (old : CallerState) (calls : List Call) (replies : List Reply)
      (outcome : Result (Unit {0}) NoMemory)
      (new : CallerState) → HasMade (HasCalled limits) (λ call. Unit {0}) old calls replies outcome
      new
      → KnowsItsLast replies old new
  knows_last old calls [] outcome new made = made.0
  knows_last old [] (reply ∷ replies) outcome new made = absurd made
  knows_last old (call ∷ calls) (reply ∷ replies) outcome new made =
      knows_one limits old call reply made.0 made.1 replies new
      (knows_last made.0 calls replies outcome new made.2)
