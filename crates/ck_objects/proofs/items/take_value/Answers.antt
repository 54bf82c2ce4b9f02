use Rattle.std.proofs.Common.{◌≡◌, Some, None, sym, ap, ◌∙◌}
use Rattle.std.specs.Prelude.{◌==◌, position, unwrap_or}
use Rattle.ck_objects.specs.declared.items.Item.{Item}
use Rattle.ck_objects.proofs.ValueLemmas.{value_at-none, value_at-Some, value_at-set}
use Rattle.ck_objects.proofs.items.take_value.Goals as goal

-- the value is that of the first item of the type
pub returns-in-Some-clause-value : goal.returns-in-Some-clause-value
returns-in-Some-clause-value c =
    let e : position (λ (item : Item). item.kind == c.number.result) c.args.items.now ≡ Some
    c.in-Some.i =
    sym c.position_of.ensures.position ∙ c.in-Some.is in
    let here = value_at-Some c.args.items.now c.number.result c.in-Some.i c.index-items-i.result
    e in
    c.swap.ensures.y_after
    ∙ sym (ap (λ o. unwrap_or o c.args.field.now) (rw c.number.ensures at here))

pub returns-in-Some-clause-others : goal.returns-in-Some-clause-others
returns-in-Some-clause-others c = λ kind unlike.
    let e : position (λ (item : Item). item.kind == c.number.result) c.args.items.now ≡ Some
    c.in-Some.i =
    sym c.position_of.ensures.position ∙ c.in-Some.is in
    value_at-set c.args.items.now c.number.result c.in-Some.i c.index-items-i.result e c.swap.new.x
    kind (λ same. unlike (same ∙ c.number.ensures))

-- no item is of the type
pub returns-in_default-clause-value : goal.returns-in_default-clause-value
returns-in_default-clause-value c =
    let e : position (λ (item : Item). item.kind == c.number.result) c.args.items.now ≡ None =
    sym c.position_of.ensures.position ∙ c.in_default.is in
    let none = value_at-none c.args.items.now c.number.result e in
    sym (ap (λ o. unwrap_or o c.args.field.now) (rw c.number.ensures at none))
