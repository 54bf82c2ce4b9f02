-- The call that a name and its arguments make
use Rattle.std.specs.Prelude.{ℕ, Bool, true, false, List, Option, option_map}
use Rattle.std.specs.Prelude.{option_and_then}
use Rattle.ck_journal.specs.declared.calls.Call.{Call}
use Rattle.ck_journal.specs.declared.calls.Call.TheVariants as call
use Rattle.ck_script.specs.Splits.{with_none, with_one, with_three, with_four}
use Rattle.ck_script.specs.Arguments.{number_in, code_number_in, bytes_in, pin_in, room_in}
use Rattle.ck_script.specs.Arguments.{mechanism_in, template_in, queries_in}
use Rattle.ck_script.specs.Arguments.{two_in, all_three, all_four}
use Rattle.ck_script.specs.CallNames.{row_named}
use Rattle.ck_script.specs.declared.call_names.Function.{Function}
use Rattle.ck_script.specs.declared.call_names.Function.TheVariants as function

-- ---- as many arguments as a call takes, each with its meaning

abbrev pub three_in : {A B C : Type 0}
    → (List ℕ → Option A) → (List ℕ → Option B) → (List ℕ → Option C)
    → List (List ℕ) → Option (A × B × C)
three_in first second third =
    with_three (λ a b c. all_three (λ x y z. (x, y, z)) (first a) (second b) (third c))

abbrev pub four_in : {A B C D : Type 0}
    → (List ℕ → Option A) → (List ℕ → Option B) → (List ℕ → Option C) → (List ℕ → Option D)
    → List (List ℕ) → Option (A × B × C × D)
four_in first second third fourth =
    with_four (λ a b c d.
    all_four (λ x y z w. (x, y, z, w)) (first a) (second b) (third c) (fourth d))

-- ---- the call that arguments make

abbrev pub takes_none : Call → List (List ℕ) → Option Call
takes_none made arguments = with_none made arguments

abbrev pub takes_one : {A : Type 0} → (List ℕ → Option A) → (A → Call) → List (List ℕ) → Option Call
takes_one meaning made arguments = option_map made (with_one meaning arguments)

abbrev pub takes_two : {A B : Type 0} → (List ℕ → Option A) → (List ℕ → Option B)
    → (A → B → Call) → List (List ℕ) → Option Call
takes_two {A} {B} first second made arguments =
    option_map (λ (p : A × B). made p.0 p.1) (two_in first second arguments)

abbrev pub takes_three : {A B C : Type 0} → (List ℕ → Option A) → (List ℕ → Option B)
    → (List ℕ → Option C) → (A → B → C → Call) → List (List ℕ) → Option Call
takes_three {A} {B} {C} first second third made arguments =
    option_map (λ (p : A × B × C). made p.0 p.1 p.2) (three_in first second third arguments)

abbrev pub takes_four : {A B C D : Type 0} → (List ℕ → Option A) → (List ℕ → Option B)
    → (List ℕ → Option C) → (List ℕ → Option D) → (A → B → C → D → Call)
    → List (List ℕ) → Option Call
takes_four {A} {B} {C} {D} first second third fourth made arguments =
    option_map (λ (p : A × B × C × D). made p.0 p.1 p.2 p.3)
    (four_in first second third fourth arguments)

-- ---- the calls by their functions

abbrev pub call_of : Function → List (List ℕ) → Option Call
call_of function.InitToken = takes_one pin_in call.InitToken
call_of function.InitPin = takes_two number_in pin_in call.InitPin
call_of function.SetPin = takes_three number_in pin_in pin_in call.SetPin
call_of function.GetTokenInfo = takes_none call.GetTokenInfo
call_of function.GetMechanismList = takes_none call.GetMechanismList
call_of function.OpenSession = takes_one code_number_in call.OpenSession
call_of function.CloseSession = takes_one number_in call.CloseSession
call_of function.CloseAllSessions = takes_none call.CloseAllSessions
call_of function.GetSessionInfo = takes_one number_in call.GetSessionInfo
call_of function.SessionCancel = takes_two number_in code_number_in call.SessionCancel
call_of function.Login = takes_three number_in number_in pin_in call.Login
call_of function.Logout = takes_one number_in call.Logout
call_of function.CreateObject = takes_two number_in template_in call.CreateObject
call_of function.CopyObject = takes_three number_in number_in template_in call.CopyObject
call_of function.DestroyObject = takes_two number_in number_in call.DestroyObject
call_of function.GetAttributeValue =
    takes_three number_in number_in queries_in call.GetAttributeValue
call_of function.SetAttributeValue =
    takes_three number_in number_in template_in call.SetAttributeValue
call_of function.FindObjectsInit = takes_two number_in template_in call.FindObjectsInit
call_of function.FindObjects = takes_two number_in number_in call.FindObjects
call_of function.FindObjectsFinal = takes_one number_in call.FindObjectsFinal
call_of function.DigestInit = takes_two number_in mechanism_in call.DigestInit
call_of function.Digest = takes_three number_in bytes_in room_in call.Digest
call_of function.DigestUpdate = takes_two number_in bytes_in call.DigestUpdate
call_of function.DigestFinal = takes_two number_in room_in call.DigestFinal
call_of function.SignInit = takes_three number_in mechanism_in number_in call.SignInit
call_of function.Sign = takes_three number_in bytes_in room_in call.Sign
call_of function.SignUpdate = takes_two number_in bytes_in call.SignUpdate
call_of function.SignFinal = takes_two number_in room_in call.SignFinal
call_of function.VerifyInit = takes_three number_in mechanism_in number_in call.VerifyInit
call_of function.Verify = takes_three number_in bytes_in bytes_in call.Verify
call_of function.VerifyUpdate = takes_two number_in bytes_in call.VerifyUpdate
call_of function.VerifyFinal = takes_two number_in bytes_in call.VerifyFinal
call_of function.GenerateKey =
    takes_four number_in mechanism_in template_in bytes_in call.GenerateKey
call_of function.SetKeyState = takes_three number_in number_in number_in call.SetKeyState

-- the call of this name with these arguments
abbrev pub call_in : List ℕ → List (List ℕ) → Option Call
call_in name arguments =
    option_and_then (λ (row : Function × List ℕ). call_of row.0 arguments) (row_named name)

-- a call with a PIN, whose bytes take memory while its line is read
abbrev pub has_pin : Call → Bool
has_pin (call.InitToken pin) = true
has_pin (call.InitPin session pin) = true
has_pin (call.SetPin session old new) = true
has_pin (call.Login session user pin) = true
has_pin others = false
