use Rattle.std.proofs.Common.{◌≡◌, ◌∙◌, sym, ap}
use Rattle.ck_objects.specs.Templates.{class_of}
use Rattle.ck_objects.specs.Records.{protections_of}
use Rattle.ck_objects.specs.Structs.{data_items, key_items, object_items}
use Rattle.ck_objects.proofs.GivenLemmas.{copy-passes}
use Rattle.ck_objects.proofs.KeyLemmas.{copy-keeps, data-copy}
use Rattle.ck_objects.proofs.records.Record.copy_with.Goals as goal

-- a copy may not be given the class
pub set-requires-clause-class : goal.set-requires-clause-class
set-requires-clause-class c =
    let items = c.args.template.now.items in
    let source = c.args.self.now in
    let same : source ≡ data_items c.in-Data.data =
    sym c.in_ok-copy.ensures.cases ∙ sym c.copy.view_is ∙ ap object_items c.in-Data.is in
    rw (c.deref_mut.ensures.value, c.in_ok-values.ensures, c.as_slice.ensures)
    (data-copy source items c.in-Data.data same
    (copy-passes (class_of source) (protections_of source) items c.requires).1)

-- nor what a key keeps
pub set-requires-in-Key-clause-keeps : goal.set-requires-in-Key-clause-keeps
set-requires-in-Key-clause-keeps c =
    let items = c.args.template.now.items in
    let source = c.args.self.now in
    let same : source ≡ key_items c.in-Key.key =
    sym c.in_ok-copy.ensures.cases ∙ sym c.copy.view_is ∙ ap object_items c.in-Key.is in
    let passes = copy-passes (class_of source) (protections_of source) items c.requires in
    rw (c.deref_mut-in-Key.ensures.value, c.in_ok-values.ensures, c.as_slice.ensures)
    (copy-keeps items c.in-Key.key passes.0 (rw same at passes.1))
