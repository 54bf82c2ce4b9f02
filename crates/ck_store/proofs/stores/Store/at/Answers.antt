use Rattle.std.proofs.Common.{Some, ◌∙◌, ap}
use Rattle.std.specs.Option.{option_copied}
use Rattle.std.specs.Prelude.{option_map}
use Rattle.ck_store.specs.Rows.{ObjectRow}
use Rattle.ck_store.proofs.Readings.{find-numbered, row_at-attributes}
use Rattle.ck_store.proofs.stores.Store.at.Goals as goal

pub returns-in_err-object : goal.returns-in_err-object
returns-in_err-object c = λ h agree.
    let here = rw (← c.self.view_is) at agree in
    let missing = rw c.deref.ensures.value at c.in_err-object.ensures in
    ap option_copied c.from_residual.ensures
    ∙ ap (option_map (λ (row : ObjectRow). row.attributes))
    (missing c.self.invariant.0.indexed ∙ find-numbered h _ here c.args.number)
    ∙ row_at-attributes h c.args.number

pub returns : goal.returns
returns c = λ h agree.
    let here = rw (← c.self.view_is) at agree in
    let found = rw c.deref.ensures.value at c.in_ok-object.ensures in
    ap Some c.attributes.ensures
    ∙ ap (option_map (λ (row : ObjectRow). row.attributes))
    (found c.self.invariant.0.indexed ∙ find-numbered h _ here c.args.number)
    ∙ row_at-attributes h c.args.number
