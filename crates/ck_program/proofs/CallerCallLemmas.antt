-- All callers have made their calls
use Rattle.std.proofs.Common.{◌≡◌, ℕ, zero, suc, ◌+◌, ◌==◌, ◌≤◌, ◌<◌, ◌≢◌, ◌||◌, Bool, true}
use Rattle.std.proofs.Common.{false, List, [], ◌∷◌, ◌++◌, Ok, length, map, take, get_or}
use Rattle.std.proofs.Common.{if◌then◌else◌, refl, sym, ap, ◌∙◌, subst, arith}
use Rattle.std.specs.Prelude.{All, Result, Err, MatchBool, MatchResult, vec_items}
use Rattle.std.specs.List.{AllZip, list_any}
use Rattle.std.proofs.Math.Seq.{take-suc}
use Rattle.std.proofs.lemmas.Bool.{eqb-true, eq-eqb, and_parts}
use Rattle.std.proofs.lemmas.List.Elements.{All-nil, All-cons, All-tail}
use Rattle.ck_types.specs.declared.memory.NoMemory.{NoMemory}
use Rattle.ck_journal.specs.Bases.{empty_base}
use Rattle.ck_journal.specs.Callers.{entries_by}
use Rattle.ck_journal.specs.Fronts.{IsFront}
use Rattle.ck_journal.specs.declared.calls.Call.{Call}
use Rattle.ck_journal.specs.declared.replies.Reply.{Reply}
use Rattle.ck_journal.specs.Histories.{History, start}
use Rattle.ck_journal.proofs.FrontLemmas.{front_trans}
use Rattle.ck_callers.specs.Accounts.{AccountState}
use Rattle.ck_callers.specs.Callers.{CallerState, IsSettled, are_all, new_caller}
use Rattle.ck_callers.specs.Runs.{AreMade}
use Rattle.ck_callers.specs.Scripts.{entries_after}
use Rattle.ck_callers.specs.declared.scripts.Script.{Script}
use Rattle.ck_program.specs.CallerCalls.{calls_by, IsNewCaller, HasMadeAll, HasEntriesOf}
use Rattle.ck_program.specs.CallerCalls.{IsUnplayed, IsPlayedAll}

-- ---- the calls of a caller

calls_by-tested : (number : ℕ) (is_own : Bool) (call : Call) (calls later : List Call)
    → (if is_own then call ∷ (calls ++ later) else (calls ++ later))
    ≡ (if is_own then call ∷ calls else calls) ++ later
calls_by-tested number true call calls later = refl
calls_by-tested number false call calls later = refl

calls_by-append : (number : ℕ) (calls later : List (ℕ × Call))
    → calls_by number (calls ++ later) ≡ calls_by number calls ++ calls_by number later
calls_by-append number [] later = refl
calls_by-append number (c ∷ calls) later =
    ap (λ rest. if c.0 == number then c.1 ∷ rest else rest) (calls_by-append number calls later)
    ∙ calls_by-tested number (c.0 == number) c.1 (calls_by number calls) (calls_by number later)

-- up to the next call
pub calls_by-next : (number i : ℕ) (calls : List (ℕ × Call)) (d : ℕ × Call) → i < length calls
    → calls_by number (take (i + 1) calls)
    ≡ calls_by number (take i calls) ++ calls_by number (get_or calls i d ∷ [])
calls_by-next number i calls d within =
    let next : i + 1 ≡ suc i = omega arith in
    ap (λ k. calls_by number (take k calls)) next
    ∙ ap (calls_by number) (take-suc calls i d within)
    ∙ calls_by-append number (take i calls) (get_or calls i d ∷ [])

-- ---- one caller

-- before the first call
pub none_made : (accounts : List AccountState)
    → All IsNewCaller (map (new_caller empty_base) accounts)
none_made [] = All-nil IsNewCaller
none_made (a ∷ accounts) =
    All-cons IsNewCaller (new_caller empty_base a) (map (new_caller empty_base) accounts)
    (refl, refl) (none_made accounts)

all_answered : (result : Result (Unit {0}) NoMemory) (n m : ℕ) → result ≡ Ok tt
    → MatchResult result (λ done. n ≡ m) (λ none. n < m) → n ≡ m
all_answered (Ok u) n m is made = made
all_answered (Err e) n m is made = cc is

in_thread : (P Q : Type 0) (b : Bool) → b ≡ true → MatchBool b P Q → P
in_thread P Q true is holds = holds
in_thread P Q false is holds = cc is

-- a script that was played from its first call on
pub played_all : {K : Type 0} (calls : List (ℕ × Call)) (old new : Script K Call Reply)
    → IsUnplayed calls old → AreMade old new → IsPlayedAll calls new
played_all calls old new unplayed played started done =
    let p = (in_thread _ _ new.started started played).0 in
    let all = all_answered new.outcome (length (vec_items new.answers))
    (length (vec_items old.steps)) done p.made in (
      subst (λ n. HasEntriesOf calls n new.caller.last) (sym p.number) (record {
        replies = vec_items new.answers;
        own = p.own
            ∙ ap (λ own. entries_after old.caller.number own (vec_items new.answers)
            (entries_by old.caller.number old.caller.last)) unplayed.0
            ∙ ap (entries_after old.caller.number (calls_by old.caller.number calls)
            (vec_items new.answers)) unplayed.1.0;
        all = all ∙ ap length unplayed.0;
      }),
      subst (λ h. IsFront h new.caller.seen) unplayed.1.1 p.front,
    )

-- so it is of all scripts
pub all_played_all : {K : Type 0} (calls : List (ℕ × Call)) (old new : List (Script K Call Reply))
    → AllZip AreMade old new → All (IsUnplayed calls) old → All (IsPlayedAll calls) new
all_played_all calls [] [] each unplayed = All-nil (IsPlayedAll calls)
all_played_all calls [] (t ∷ new) each unplayed = absurd each
all_played_all calls (s ∷ old) [] each unplayed = absurd each
all_played_all calls (s ∷ old) (t ∷ new) each unplayed =
    All-cons (IsPlayedAll calls) t new
    (played_all calls s t (unplayed 0 s (omega arith)) each.0)
    (all_played_all calls old new each.1 (All-tail (IsUnplayed calls) s old unplayed))

-- ---- all callers are given back

module _ (calls : List (ℕ × Call)) (h : History) where
  of_caller : (number : ℕ) (c : CallerState) → c.number ≡ number → IsSettled h c
      → HasMadeAll calls c → HasEntriesOf calls number h
  of_caller number c same settled made = subst (λ n. HasEntriesOf calls n h) same (record {
    replies = made.0.replies;
    own = settled.own ∙ made.0.own;
    all = made.0.all;
  })

  this_or : (number : ℕ) (c : CallerState) (is_this others : Bool) → (c.number == number) ≡ is_this
      → (is_this || others) ≡ true → IsSettled h c → HasMadeAll calls c
      → (others ≡ true → HasEntriesOf calls number h) → HasEntriesOf calls number h
  this_or number c true others same any settled made later =
      of_caller number c (eqb-true c.number number same) settled made
  this_or number c false others same any settled made later = later any

  of_one : (number : ℕ) (callers : List CallerState)
      → list_any (λ c. c.number == number) callers ≡ true → All (IsSettled h) callers
      → All (HasMadeAll calls) callers → HasEntriesOf calls number h
  of_one number [] any settled made = cc any
  of_one number (c ∷ callers) any settled made =
      this_or number c (c.number == number) (list_any (λ c. c.number == number) callers) refl any
      (settled 0 c (omega arith)) (made 0 c (omega arith))
      (λ others. of_one number callers others (All-tail (IsSettled h) c callers settled)
      (All-tail (HasMadeAll calls) c callers made))

  last_or : (number most : ℕ) (is_last : Bool) → (number == suc most) ≡ is_last → number ≤ suc most
      → (number ≡ suc most → HasEntriesOf calls number h)
      → (number ≤ most → HasEntriesOf calls number h) → HasEntriesOf calls number h
  last_or number most true same high last earlier = last (eqb-true number (suc most) same)
  last_or number most false same high last earlier =
      let differ : number ≢ suc most = λ e.
      let no : true ≡ false = sym (eq-eqb number (suc most) e) ∙ same in cc no in
      earlier (omega (arith, differ))

  -- so each of the callers 1 to n has made its calls
  pub of_each : (most : ℕ) (callers : List CallerState) → are_all most callers ≡ true
      → All (IsSettled h) callers → All (HasMadeAll calls) callers
      → (number : ℕ) → 1 ≤ number → number ≤ most → HasEntriesOf calls number h
  of_each zero callers all settled made number low high = absurd (omega arith)
  of_each (suc most) callers all settled made number low high =
      let parts = and_parts (list_any (λ c. c.number == suc most) callers) (are_all most callers)
      all in
      last_or number most (number == suc most) refl high
      (λ e. subst (λ n. HasEntriesOf calls n h) (sym e)
      (of_one (suc most) callers parts.0 settled made))
      (λ below. of_each most callers parts.1 settled made number low below)

  -- and the token was new
  pub was_new : (most : ℕ) (callers : List CallerState) → 1 ≤ most → are_all most callers ≡ true
      → All (IsSettled h) callers → All (HasMadeAll calls) callers → IsFront (start empty_base) h
  was_new zero callers some all settled made = absurd (omega arith)
  was_new (suc most) [] some all settled made = cc all
  was_new (suc most) (c ∷ callers) some all settled made =
      front_trans (start empty_base) c.seen h (made 0 c (omega arith)).1
      (settled 0 c (omega arith)).front
