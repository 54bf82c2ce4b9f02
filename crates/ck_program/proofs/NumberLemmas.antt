-- All callers are given back where their numbers are those that they were made with
use Rattle.std.proofs.Common.{◌≡◌, ℕ, zero, suc, ◌==◌, ◌≤◌, ◌≢◌, ◌&&◌, ◌||◌, Bool, true, false}
use Rattle.std.proofs.Common.{List, [], ◌∷◌, ◌++◌, map, append_assoc, refl, sym, ap, ap₂, ◌∙◌}
use Rattle.std.proofs.Common.{arith}
use Rattle.std.specs.List.{AllZip, list_any}
use Rattle.std.specs.Prelude.{MatchBool, vec_items}
use Rattle.std.proofs.lemmas.Bool.{eq-eqb}
use Rattle.std.proofs.lemmas.List.{map-append}
use Rattle.std.proofs.lemmas.List.Folds.{list_any-append}
use Rattle.ck_journal.specs.declared.bases.Base.{Base}
use Rattle.ck_journal.specs.declared.calls.Call.{Call}
use Rattle.ck_journal.specs.declared.replies.Reply.{Reply}
use Rattle.ck_callers.specs.Accounts.{AccountState, new_account, new_accounts}
use Rattle.ck_callers.specs.Callers.{CallerState, are_all, new_caller, new_callers}
use Rattle.ck_callers.specs.Runs.{IsUntouched, AreMade}
use Rattle.ck_callers.specs.Scripts.{HasMadeCalls, KnowsItsLast}
use Rattle.ck_callers.specs.declared.scripts.Script.{Script}
use Rattle.ck_program.specs.CallerCalls.{caller_numbers, script_numbers}

-- a value of the one list is moved to the other, and keeps its number
pub one_moved : {A B : Type 0} (f : A → ℕ) (g : B → ℕ) (moved longer : List A) (a : A)
    (left rest : List B) (b : B) (all : List ℕ)
    → map f moved ++ map g left ≡ all → left ≡ b ∷ rest → longer ≡ moved ++ a ∷ [] → f a ≡ g b
    → map f longer ++ map g rest ≡ all
one_moved f g moved longer a left rest b all before next pushed same =
    ap (λ xs. map f xs ++ map g rest) pushed
    ∙ ap (λ ns. ns ++ map g rest) (map-append f moved (a ∷ []))
    ∙ append_assoc (map f moved) (f a ∷ []) (map g rest)
    ∙ ap (λ n. map f moved ++ n ∷ map g rest) same
    ∙ ap (λ xs. map f moved ++ map g xs) (sym next) ∙ before

-- a script keeps the number of its caller
same_number : {K : Type 0} (old new : Script K Call Reply) (started : Bool)
    → MatchBool started
    (HasMadeCalls old.caller (vec_items old.steps) (vec_items new.answers) new.outcome new.caller
    × (vec_items new.steps ≡ []) × KnowsItsLast (vec_items new.answers) old.caller new.caller)
    (IsUntouched old new)
    → new.caller.number ≡ old.caller.number
same_number old new true played = played.0.number
same_number old new false left = ap (λ c. c.number) left.0

-- so do all
pub same_numbers : {K : Type 0} (old new : List (Script K Call Reply)) → AllZip AreMade old new
    → script_numbers new ≡ script_numbers old
same_numbers [] [] each = refl
same_numbers [] (t ∷ new) each = absurd each
same_numbers (s ∷ old) [] each = absurd each
same_numbers (s ∷ old) (t ∷ new) each =
    ap₂ ◌∷◌ (same_number s t t.started each.0) (same_numbers old new each.1)

-- ---- whether all are given back depends only on the numbers

same_any : (number : ℕ) (old new : List CallerState) → caller_numbers new ≡ caller_numbers old
    → list_any (λ c. c.number == number) new ≡ list_any (λ c. c.number == number) old
same_any number [] [] same = refl
same_any number [] (c ∷ new) same = cc same
same_any number (b ∷ old) [] same = cc same
same_any number (b ∷ old) (c ∷ new) same =
    let first : c.number ≡ b.number = cc same in
    let others : caller_numbers new ≡ caller_numbers old = cc same in
    ap₂ ◌||◌ (ap (λ n. n == number) first) (same_any number old new others)

same_all : (most : ℕ) (old new : List CallerState) → caller_numbers new ≡ caller_numbers old
    → are_all most new ≡ are_all most old
same_all zero old new same = refl
same_all (suc most) old new same =
    ap₂ ◌&&◌ (same_any (suc most) old new same) (same_all most old new same)

-- ---- the callers that a token is opened with

any_account : (base : Base) (number : ℕ) (accounts : List AccountState)
    → list_any (λ c. c.number == number) (map (new_caller base) accounts)
    ≡ list_any (λ a. a.number == number) accounts
any_account base number [] = refl
any_account base number (a ∷ accounts) =
    ap (λ b. (a.number == number) || b) (any_account base number accounts)

last_or_earlier : (number most : ℕ) (earlier is_last : Bool) → (suc most == number) ≡ is_last
    → number ≤ suc most → (number ≤ most → earlier ≡ true)
    → (earlier || (is_last || false)) ≡ true
last_or_earlier number most true true same high before = refl
last_or_earlier number most false true same high before = refl
last_or_earlier number most earlier false same high before =
    let differ : number ≢ suc most = λ e.
    let no : true ≡ false = sym (eq-eqb (suc most) number (sym e)) ∙ same in cc no in
    ap (λ b. b || false) (before (omega (arith, differ)))

is_account : (number most : ℕ) → 1 ≤ number → number ≤ most
    → list_any (λ a. a.number == number) (new_accounts most) ≡ true
is_account number zero low high = absurd (omega arith)
is_account number (suc most) low high =
    list_any-append (λ a. a.number == number) (new_accounts most) (new_account (suc most) ∷ [])
    ∙ last_or_earlier number most (list_any (λ a. a.number == number) (new_accounts most))
    (suc most == number) refl high (λ below. is_account number most low below)

all_new : (base : Base) (most callers : ℕ) → most ≤ callers
    → are_all most (new_callers base callers) ≡ true
all_new base zero callers within = refl
all_new base (suc most) callers within =
    ap₂ ◌&&◌ (any_account base (suc most) (new_accounts callers)
    ∙ is_account (suc most) callers (omega arith) within)
    (all_new base most callers (omega (arith, within)))

-- so all are given back
pub all_back : (base : Base) (most : ℕ) (callers : List CallerState)
    → caller_numbers callers ≡ caller_numbers (new_callers base most) → are_all most callers ≡ true
all_back base most callers same =
    same_all most (new_callers base most) callers same ∙ all_new base most most (omega arith)
