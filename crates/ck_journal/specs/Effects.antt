-- What an entry may change, roughly, for proofs and for what a board shows. The code mirrors the
-- marks of sessions (`Call::keeps_board`); no answer depends on the table.
use Rattle.std.specs.Prelude.{Bool, true, false, Option, Some, ◌||◌, is_some}
use Rattle.ck_journal.specs.declared.calls.Call.{Call}
use Rattle.ck_journal.specs.declared.calls.Call.TheVariants as call
use Rattle.ck_journal.specs.declared.calls.Entry.{Entry}
use Rattle.ck_journal.specs.Histories.{done}
use Rattle.ck_journal.specs.OperationCalls.{operation_step}

-- sessions, the login, PINs, or wrong tries that go back to 0 (one more wrong try isn't marked: see
-- `wrong_try`); objects; searches; digests, signatures and verifications
pub record Effects : Type 0 where
  pub sessions : Bool
  pub objects : Bool
  pub searches : Bool
  pub operations : Bool

abbrev nothing : Effects
nothing = record { sessions = false; objects = false; searches = false; operations = false }

abbrev on_sessions : Effects
on_sessions = record nothing { sessions = true }

abbrev on_objects : Effects
on_objects = record nothing { objects = true }

abbrev on_searches : Effects
on_searches = record nothing { searches = true }

abbrev on_operations : Effects
on_operations = record nothing { operations = true }

abbrev on_sessions_and_objects : Effects
on_sessions_and_objects = record nothing { sessions = true; objects = true }

abbrev on_all : Effects
on_all = record { sessions = true; objects = true; searches = true; operations = true }

-- what a call that was answered OK may change, apart from the operation that it starts or goes on
-- with
abbrev pub effects_of : Option Call → Effects
effects_of (Some (call.InitToken pin)) = on_sessions_and_objects
effects_of (Some (call.InitPin session pin)) = on_sessions
effects_of (Some (call.SetPin session old new)) = on_sessions
effects_of (Some (call.OpenSession flags)) = on_sessions
effects_of (Some (call.CloseSession session)) = on_all
effects_of (Some call.CloseAllSessions) = on_all
effects_of (Some (call.SessionCancel session flags)) = on_operations
effects_of (Some (call.Login session user pin)) = on_sessions
effects_of (Some (call.Logout session)) = on_all
effects_of (Some (call.CreateObject session template)) = on_objects
effects_of (Some (call.GenerateKey session mechanism template random)) = on_objects
effects_of (Some (call.CopyObject session object template)) = on_objects
effects_of (Some (call.SetAttributeValue session object template)) = on_objects
effects_of (Some (call.SetKeyState session key state)) = on_objects
effects_of (Some (call.DestroyObject session object)) = on_objects
effects_of (Some (call.FindObjectsInit session template)) = on_searches
effects_of (Some (call.FindObjects session max)) = on_searches
effects_of (Some (call.FindObjectsFinal session)) = on_searches
effects_of other = nothing

-- what an entry may change; a refusal may only end the operation that its call is on, or count as a
-- wrong try of a PIN, which isn't marked
abbrev pub effects : Entry → Effects
effects e = record (effects_of (done e)) {
  operations = (effects_of (done e)).operations || is_some (operation_step e.call);
}
