-- The names of calls in a script
use Rattle.std.specs.Prelude.{ℕ, List, [], ◌∷◌, Option, codes}
use Rattle.std.specs.List.{find}
use Rattle.ck_types.specs.Numbers.{same_bytes}
use Rattle.ck_script.specs.declared.call_names.Function.{Function}
use Rattle.ck_script.specs.declared.call_names.Function.TheVariants as function

-- each function that a script calls, and its name there
abbrev pub names : List (Function × List ℕ)
names =
    (function.InitToken, codes "InitToken")
    ∷ (function.InitPin, codes "InitPIN")
    ∷ (function.SetPin, codes "SetPIN")
    ∷ (function.GetTokenInfo, codes "GetTokenInfo")
    ∷ (function.GetMechanismList, codes "GetMechanismList")
    ∷ (function.OpenSession, codes "OpenSession")
    ∷ (function.CloseSession, codes "CloseSession")
    ∷ (function.CloseAllSessions, codes "CloseAllSessions")
    ∷ (function.GetSessionInfo, codes "GetSessionInfo")
    ∷ (function.SessionCancel, codes "SessionCancel")
    ∷ (function.Login, codes "Login")
    ∷ (function.Logout, codes "Logout")
    ∷ (function.CreateObject, codes "CreateObject")
    ∷ (function.CopyObject, codes "CopyObject")
    ∷ (function.DestroyObject, codes "DestroyObject")
    ∷ (function.GetAttributeValue, codes "GetAttributeValue")
    ∷ (function.SetAttributeValue, codes "SetAttributeValue")
    ∷ (function.FindObjectsInit, codes "FindObjectsInit")
    ∷ (function.FindObjects, codes "FindObjects")
    ∷ (function.FindObjectsFinal, codes "FindObjectsFinal")
    ∷ (function.DigestInit, codes "DigestInit")
    ∷ (function.Digest, codes "Digest")
    ∷ (function.DigestUpdate, codes "DigestUpdate")
    ∷ (function.DigestFinal, codes "DigestFinal")
    ∷ (function.SignInit, codes "SignInit")
    ∷ (function.Sign, codes "Sign")
    ∷ (function.SignUpdate, codes "SignUpdate")
    ∷ (function.SignFinal, codes "SignFinal")
    ∷ (function.VerifyInit, codes "VerifyInit")
    ∷ (function.Verify, codes "Verify")
    ∷ (function.VerifyUpdate, codes "VerifyUpdate")
    ∷ (function.VerifyFinal, codes "VerifyFinal")
    ∷ (function.GenerateKey, codes "GenerateKey")
    ∷ (function.SetKeyState, codes "SetKeyState")
    ∷ []

-- the row of this name
abbrev pub row_named : List ℕ → Option (Function × List ℕ)
row_named text = find (λ (row : Function × List ℕ). same_bytes row.1 text) names
