use Rattle.std.proofs.Common.{sym}
use Rattle.ck_objects.proofs.GivenLemmas.{active-given}
use Rattle.ck_objects.proofs.items.state_or.Goals as goal

-- a given state that isn't that of a key before its activation is that of an active one
pub returns-else-is_number : goal.returns-else-is_number
returns-else-is_number c =
    let test =
    rw c.number-in-Some.ensures at rw c.as_slice.ensures at c.is_number.ensures in
    active-given c.args.items.now _ c.in-Some.value.now _ c.requires.well_formed c.in-Some.ensures
    c.number.ensures (sym (rw c.if-is_number.false at test))
