-- Which calls have lists. No reply is defined by these.
use Rattle.std.specs.Prelude.{Bool, true, false}
use Rattle.ck_journal.specs.declared.calls.Call.{Call}
use Rattle.ck_journal.specs.declared.calls.Call.TheVariants as call

-- the call has a mechanism, a template, queries, a message or a signature, of which a copy may take
-- memory
abbrev pub brings_list : Call → Bool
brings_list (call.CreateObject session template) = true
brings_list (call.GenerateKey session mechanism template random) = true
brings_list (call.CopyObject session object template) = true
brings_list (call.GetAttributeValue session object queries) = true
brings_list (call.SetAttributeValue session object template) = true
brings_list (call.FindObjectsInit session template) = true
brings_list (call.DigestInit session mechanism) = true
brings_list (call.Digest session bytes room) = true
brings_list (call.DigestUpdate session bytes) = true
brings_list (call.SignInit session mechanism key) = true
brings_list (call.Sign session bytes room) = true
brings_list (call.SignUpdate session bytes) = true
brings_list (call.VerifyInit session mechanism key) = true
brings_list (call.Verify session bytes signature) = true
brings_list (call.VerifyUpdate session bytes) = true
brings_list (call.VerifyFinal session signature) = true
brings_list other = false
