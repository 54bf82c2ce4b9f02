-- The token's return codes (PKCS #11 Base 3.0, Function return values)
use Rattle.std.specs.Prelude.{ℕ, List, [], ◌∷◌, Option, ◌==◌, find, map}
use Rattle.ck_types.specs.declared.errors.RvError.{RvError}
use Rattle.ck_types.specs.declared.errors.RvError.TheVariants as rv_error
use Rattle.ck_types.specs.declared.return_codes.Rv.{Rv}
use Rattle.ck_types.specs.declared.return_codes.Rv.TheVariants as rv

-- the standard's number of an error
abbrev pub error_number : RvError → ℕ
error_number rv_error.HostMemory = 0x2
error_number rv_error.ArgumentsBad = 0x7
error_number rv_error.AttributeReadOnly = 0x10
error_number rv_error.AttributeSensitive = 0x11
error_number rv_error.AttributeTypeInvalid = 0x12
error_number rv_error.AttributeValueInvalid = 0x13
error_number rv_error.ActionProhibited = 0x1b
error_number rv_error.DataLenRange = 0x21
error_number rv_error.DeviceMemory = 0x31
error_number rv_error.KeyHandleInvalid = 0x60
error_number rv_error.KeySizeRange = 0x62
error_number rv_error.KeyTypeInconsistent = 0x63
error_number rv_error.KeyFunctionNotPermitted = 0x68
error_number rv_error.MechanismInvalid = 0x70
error_number rv_error.MechanismParamInvalid = 0x71
error_number rv_error.ObjectHandleInvalid = 0x82
error_number rv_error.OperationActive = 0x90
error_number rv_error.OperationNotInitialized = 0x91
error_number rv_error.PinIncorrect = 0xa0
error_number rv_error.PinLenRange = 0xa2
error_number rv_error.PinLocked = 0xa4
error_number rv_error.SessionCount = 0xb1
error_number rv_error.SessionHandleInvalid = 0xb3
error_number rv_error.SessionParallelNotSupported = 0xb4
error_number rv_error.SessionReadOnly = 0xb5
error_number rv_error.SessionExists = 0xb6
error_number rv_error.SessionReadOnlyExists = 0xb7
error_number rv_error.SessionReadWriteSoExists = 0xb8
error_number rv_error.SignatureInvalid = 0xc0
error_number rv_error.SignatureLenRange = 0xc1
error_number rv_error.TemplateIncomplete = 0xd0
error_number rv_error.TemplateInconsistent = 0xd1
error_number rv_error.TokenNotRecognized = 0xe1
error_number rv_error.UserAlreadyLoggedIn = 0x100
error_number rv_error.UserNotLoggedIn = 0x101
error_number rv_error.UserPinNotInitialized = 0x102
error_number rv_error.UserTypeInvalid = 0x103
error_number rv_error.UserAnotherAlreadyLoggedIn = 0x104
error_number rv_error.BufferTooSmall = 0x150

-- the standard's number of a code: CKR_OK is 0
abbrev pub number_of : Rv → ℕ
number_of rv.Ok = 0x0
number_of (rv.Error error) = error_number error

-- every error that the token has
abbrev pub errors : List RvError
errors =
    rv_error.HostMemory ∷ rv_error.ArgumentsBad ∷ rv_error.AttributeReadOnly
    ∷ rv_error.AttributeSensitive ∷ rv_error.AttributeTypeInvalid ∷ rv_error.AttributeValueInvalid
    ∷ rv_error.ActionProhibited ∷ rv_error.DataLenRange ∷ rv_error.DeviceMemory
    ∷ rv_error.KeyHandleInvalid ∷ rv_error.KeySizeRange ∷ rv_error.KeyTypeInconsistent
    ∷ rv_error.KeyFunctionNotPermitted ∷ rv_error.MechanismInvalid
    ∷ rv_error.MechanismParamInvalid ∷ rv_error.ObjectHandleInvalid ∷ rv_error.OperationActive
    ∷ rv_error.OperationNotInitialized ∷ rv_error.PinIncorrect ∷ rv_error.PinLenRange
    ∷ rv_error.PinLocked ∷ rv_error.SessionCount ∷ rv_error.SessionHandleInvalid
    ∷ rv_error.SessionParallelNotSupported ∷ rv_error.SessionReadOnly ∷ rv_error.SessionExists
    ∷ rv_error.SessionReadOnlyExists ∷ rv_error.SessionReadWriteSoExists
    ∷ rv_error.SignatureInvalid ∷ rv_error.SignatureLenRange ∷ rv_error.TemplateIncomplete
    ∷ rv_error.TemplateInconsistent ∷ rv_error.TokenNotRecognized ∷ rv_error.UserAlreadyLoggedIn
    ∷ rv_error.UserNotLoggedIn ∷ rv_error.UserPinNotInitialized ∷ rv_error.UserTypeInvalid
    ∷ rv_error.UserAnotherAlreadyLoggedIn ∷ rv_error.BufferTooSmall ∷ []

-- the error that has this number
abbrev pub error_of : ℕ → Option RvError
error_of number = find (λ error. error_number error == number) errors

-- every code that the token has
abbrev pub codes : List Rv
codes = rv.Ok ∷ map rv.Error errors

-- the code that has this number
abbrev pub code_of : ℕ → Option Rv
code_of number = find (λ code. number_of code == number) codes
