use Rattle.std.proofs.Common.{◌∙◌, ap}
use Rattle.std.specs.Prelude.{option_and_then}
use Rattle.ck_journal.specs.Objects.{view_of}
use Rattle.ck_store.specs.Rows.{visible_handle}
use Rattle.ck_store.proofs.Readings.{find-numbered, row_at-handle}
use Rattle.ck_store.proofs.stores.Store.handle.Goals as goal

pub returns-in_err-find_numbered : goal.returns-in_err-find_numbered
returns-in_err-find_numbered c = λ h agree view.
    let here = rw (← c.self.view_is) at agree in
    let missing = rw c.deref.ensures.value at c.in_err-find_numbered.ensures in
    c.from_residual.ensures
    ∙ ap (option_and_then (visible_handle (view_of h)))
    (missing c.self.invariant.0.indexed ∙ find-numbered h _ here c.args.number)
    ∙ row_at-handle h c.args.number

pub returns : goal.returns
returns c = λ h agree view.
    let here = rw (← c.self.view_is) at agree in
    let found = rw c.deref.ensures.value at c.in_ok-find_numbered.ensures in
    (rw view at c.handle.ensures)
    ∙ ap (option_and_then (visible_handle (view_of h)))
    (found c.self.invariant.0.indexed ∙ find-numbered h _ here c.args.number)
    ∙ row_at-handle h c.args.number
