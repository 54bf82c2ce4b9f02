-- Which calls may run out of memory where there is room for their entries. No reply is defined by
-- these.
use Rattle.std.specs.Prelude.{◌≡◌, ◌+◌, ◌<◌, ◌≤◌, Bool, true, false, ◌&&◌, is_none, is_some, not}
use Rattle.std.specs.Prelude.{take, Result, IsOk, OnOk, OnErr}
use Rattle.ck_types.specs.declared.memory.NoMemory.{NoMemory}
use Rattle.ck_types.specs.TokenLimits.{Ranges}
use Rattle.ck_journal.specs.declared.calls.Call.{Call}
use Rattle.ck_journal.specs.declared.calls.Call.TheVariants as call
use Rattle.ck_journal.specs.declared.replies.Reply.{Reply}
use Rattle.ck_journal.specs.Answers.{call_error}
use Rattle.ck_journal.specs.Histories.{History}
use Rattle.ck_journal.specs.Lists.{is_empty}
use Rattle.ck_journal.specs.Searches.{matching_objects, search_rest}
use Rattle.ck_journal.specs.TokenStates.{TokenState}

-- the calls that may take memory besides that of their entry: for a session, an object or its
-- attributes, a search, an operation, or a list or bytes in the reply; one that asks only for a
-- length gets no bytes
abbrev pub takes_memory : Call → Bool
takes_memory (call.OpenSession flags) = true
takes_memory call.GetMechanismList = true
takes_memory (call.CreateObject session template) = true
takes_memory (call.GenerateKey session mechanism template random) = true
takes_memory (call.CopyObject session object template) = true
takes_memory (call.GetAttributeValue session object queries) = true
takes_memory (call.SetAttributeValue session object template) = true
takes_memory (call.FindObjectsInit session template) = true
takes_memory (call.FindObjects session max) = true
takes_memory (call.DigestInit session mechanism) = true
takes_memory (call.Digest session bytes room) = is_some room
takes_memory (call.DigestFinal session room) = is_some room
takes_memory (call.SignInit session mechanism key) = true
takes_memory (call.Sign session bytes room) = is_some room
takes_memory (call.SignFinal session room) = is_some room
takes_memory (call.VerifyInit session mechanism key) = true
takes_memory other = false

-- a call that gives nothing: a request for no attribute, a search that finds no object, or a
-- request for a search's next objects that returns none
abbrev pub gives_nothing : History → Call → Bool
gives_nothing h (call.GetAttributeValue session object queries) = is_empty queries
gives_nothing h (call.FindObjectsInit session template) =
    is_empty (matching_objects h template.items)
gives_nothing h (call.FindObjects session max) = is_empty (take max (search_rest h session))
gives_nothing h other = false

-- a call that may take memory, and not one of those that give nothing
abbrev pub may_take_memory : History → Call → Bool
may_take_memory h c = takes_memory c && not (gives_nothing h c)

-- such a call that passes its checks
abbrev pub may_run_out : Ranges → History → Call → Bool
may_run_out limits h c = is_none (call_error limits h c) && may_take_memory h c

-- where the journal has room, a call that can't run out of memory is answered; an answer takes the
-- room of at most one entry, and where there is no memory no room is lost
abbrev pub FindsMemory : TokenState → TokenState → Call → Result Reply NoMemory → Type 0
FindsMemory old new c result =
    (0 < old.spare → may_run_out old.limits old.history c ≡ false → IsOk result)
    × OnOk result (old.spare ≤ new.spare + 1)
    × OnErr result (old.spare ≤ new.spare)
