use Rattle.std.proofs.Common.{◌≡◌, Some, length, ◌∙◌}
use Rattle.ck_types.specs.Numbers.{number_bytes}
use Rattle.ck_objects.specs.Attributes.{type_of}
use Rattle.ck_objects.specs.Templates.{value_at}
use Rattle.ck_objects.specs.declared.attributes.Attribute.TheVariants as attribute
use Rattle.ck_objects.proofs.KeyLemmas.{generation-keeps, generated-key, length-generated}
use Rattle.ck_objects.proofs.keys.Key.generated.Goals as goal

-- the length that the template gives is that of the random bytes
pub new-requires-clause-keeps : goal.new-requires-clause-keeps
new-requires-clause-keeps c =
    let items = c.args.items.now in
    let random = c.args.random.now in
    let read = c.number_at.ensures.number ∙ length-generated items random c.requires in
    let given : value_at items (type_of attribute.ValueLen) ≡ Some (number_bytes (length random)) =
    rw read at c.number_at.ensures.bytes in
    generation-keeps items random _ c.requires given c.in_ok-value.ensures.copied

-- the defaults with the template's values and the random bytes are what is generated
pub returns : goal.returns
returns c =
    let items = c.args.items.now in
    let random = c.args.random.now in
    let read = c.number_at.ensures.number ∙ length-generated items random c.requires in
    let given : value_at items (type_of attribute.ValueLen) ≡ Some (number_bytes (length random)) =
    rw read at c.number_at.ensures.bytes in
    let made = generated-key items random c.requires given in
    rw (c.flag_or.ensures.flag, c.flag_or-2.ensures.flag, c.in_ok-value.ensures.copied, made)
    at c.new.ensures
