use Rattle.ck_objects.proofs.GivenLemmas.{flag_bytes-given_or}
use Rattle.ck_objects.proofs.items.flag_or.Goals as goal

-- a given value of the form of a flag is that flag's bytes
pub returns-in-Some-clause-bytes : goal.returns-in-Some-clause-bytes
returns-in-Some-clause-bytes c = λ formed.
    let test = rw (c.as_slice.ensures, c.as_slice-in-Some.ensures) at c.eq.ensures in
    flag_bytes-given_or _ c.args.attribute _ c.in-Some.value.now _ c.eq.result c.requires formed
    c.in-Some.ensures c.number.ensures test
