use Rattle.std.proofs.Common.{◌≡◌, ◌∙◌, None, sym, ap, subst}
use Rattle.ck_types.proofs.CheckLemmas.{or_else-none}
use Rattle.ck_objects.specs.Structs.{data_items, key_items, object_items}
use Rattle.ck_objects.specs.Templates.{class_of, template_error}
use Rattle.ck_objects.specs.declared.attributes.Purpose.TheVariants as purpose
use Rattle.ck_objects.proofs.SetLemmas.{changed-data, changed-key}
use Rattle.ck_objects.proofs.records.Record.change.Goals as goal

pub returns-in-Data-clause-given : goal.returns-in-Data-clause-given
returns-in-Data-clause-given c =
    let items = c.args.values.items in
    let source = c.args.self.now in
    let passes = or_else-none (template_error (class_of source) purpose.Set items) _ c.requires in
    let same : source ≡ data_items c.in-Data.data =
    sym c.self.view_is ∙ ap object_items c.in-Data.is in
    let moved = rw (c.deref_mut.ensures.value, c.into_vec-items.ensures) at c.change.ensures in
    rw (same, moved) (changed-data items c.in-Data.data
    (subst (λ s. template_error (class_of s) purpose.Set items ≡ None) same passes.0))

pub returns-clause-given : goal.returns-clause-given
returns-clause-given c =
    let items = c.args.values.items in
    let source = c.args.self.now in
    let passes = or_else-none (template_error (class_of source) purpose.Set items) _ c.requires in
    let same : source ≡ key_items c.in-Key.key =
    sym c.self.view_is ∙ ap object_items c.in-Key.is in
    let moved = rw (c.deref_mut-in-Key.ensures.value, c.into_vec-items.ensures)
    at c.change-in-Key.ensures in
    rw (same, moved) (changed-key items c.in-Key.key
    (subst (λ s. template_error (class_of s) purpose.Set items ≡ None) same passes.0))
