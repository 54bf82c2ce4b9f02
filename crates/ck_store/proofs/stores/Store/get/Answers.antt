use Rattle.ck_store.proofs.Readings.{get-none, get-number, get-attributes, get-other}
use Rattle.ck_store.proofs.stores.Store.get.Goals as goal

pub returns-in_err-object-clause-none : goal.returns-in_err-object-clause-none
returns-in_err-object-clause-none c = λ h agree view.
    let here = rw (← c.self.view_is) at agree in
    let missing =
    rw (c.deref.ensures.value, c.number_of_handle-number.ensures) at c.in_err-object.ensures in
    rw c.from_residual.ensures
    (get-none h _ here c.args.handle c.self.invariant.1 (missing c.self.invariant.0.indexed))

pub returns-then-eq-clause-number : goal.returns-then-eq-clause-number
returns-then-eq-clause-number c = λ h agree view.
    let here = rw (← c.self.view_is) at agree in
    let found =
    rw (c.deref.ensures.value, c.number_of_handle-number.ensures) at c.in_ok-object.ensures in
    rw c.number_of_handle-number.ensures
    (get-number h _ here c.args.handle c.self.invariant.1 _ (found c.self.invariant.0.indexed) _
    (rw view at c.handle.ensures) _ c.eq.ensures c.if-eq.true)

pub returns-then-eq-clause-attributes : goal.returns-then-eq-clause-attributes
returns-then-eq-clause-attributes c = λ h agree view.
    let here = rw (← c.self.view_is) at agree in
    let found =
    rw (c.deref.ensures.value, c.number_of_handle-number.ensures) at c.in_ok-object.ensures in
    rw c.attributes.ensures
    (get-attributes h _ here c.args.handle c.self.invariant.1 _ (found c.self.invariant.0.indexed) _
    (rw view at c.handle.ensures) _ c.eq.ensures c.if-eq.true)

pub returns-else-eq-clause-none : goal.returns-else-eq-clause-none
returns-else-eq-clause-none c = λ h agree view.
    let here = rw (← c.self.view_is) at agree in
    let found =
    rw (c.deref.ensures.value, c.number_of_handle-number.ensures) at c.in_ok-object.ensures in
    get-other h _ here c.args.handle c.self.invariant.1 _ (found c.self.invariant.0.indexed) _
    (rw view at c.handle.ensures) _ c.eq.ensures c.if-eq.false
