-- When a token's parts are what its history says, and what a change needs of them
use Rattle.std.specs.Prelude.{◌≡◌, ◌+◌, ◌<◌, ◌≤◌, ◌^◌, Bool, true, false, Some, find}
use Rattle.std.specs.Prelude.{is_some}
use Rattle.ck_types.specs.Hashes.{digest_length}
use Rattle.ck_types.specs.declared.users.UserType.TheVariants as user
use Rattle.ck_journal.specs.Histories.{History}
use Rattle.ck_operations.specs.Agreement.{OperationsAgree}
use Rattle.ck_sessions.specs.Agreement.{SessionsAgree, credential_of}
use Rattle.ck_store.specs.Agreement.{StoreAgrees}
use Rattle.ck_store.specs.Rows.{ObjectRow, PassesChange, has_number}
use Rattle.ck_parts.specs.declared.changes.Change.{Change}
use Rattle.ck_parts.specs.declared.changes.Change.TheVariants as change
use Rattle.ck_parts.specs.declared.parts.Parts.{Parts}

pub record PartsAgree (h : History) (p : Parts) : Type 0 where
  pub sessions : SessionsAgree h p.sessions
  pub objects : StoreAgrees h p.objects
  pub operations : OperationsAgree h p.operations

-- ---- what a change needs of the parts

-- the change adds a session, an object or an operation
abbrev pub adds : Change → Bool
adds (change.OpenSession flags) = true
adds (change.CreateObject session attributes) = true
adds (change.StartDigest session hash) = true
adds (change.StartHmac kind session hash key len) = true
adds other = false

-- room for one more session, object or operation, where the change adds one
abbrev pub HasRoom : Parts → Change → Type 0
HasRoom p (change.OpenSession flags) = 0 < p.sessions.spare
HasRoom p (change.CreateObject session attributes) = 0 < p.objects.spare
HasRoom p (change.StartDigest session hash) = 0 < p.operations.spare
HasRoom p (change.StartHmac kind session hash key len) = 0 < p.operations.spare
HasRoom p other = Unit {0}

-- the count that it raises stays in range, a PIN that is changed is there, the values that an
-- object is given pass the checks of a change of it, and a signature has at least one byte and at
-- most as many as the HMAC
abbrev pub IsCounted : Parts → Change → Type 0
IsCounted p (change.OpenSession flags) = p.sessions.openings + 1 < 2 ^ 64
IsCounted p (change.CreateObject session attributes) = p.objects.creations + 1 < 2 ^ 32
IsCounted p (change.LogIn user.User) = p.sessions.logins + 1 < 2 ^ 64
IsCounted p (change.SetPin owner pin) = is_some (credential_of owner p.sessions).pin ≡ true
IsCounted p (change.WrongTry u) = (credential_of u p.sessions).tries + 1 < 2 ^ 64
IsCounted p (change.SetAttributes number values) =
    (row : ObjectRow) → find (has_number number) p.objects.rows ≡ Some row
    → PassesChange values.items row
IsCounted p (change.StartHmac kind session hash key len) = (1 ≤ len) × (len ≤ digest_length hash)
IsCounted p other = Unit {0}
