use Rattle.std.proofs.Common.{◌∙◌, sym, subst}
use Rattle.std.proofs.lemmas.Result.{IfOk-weaker}
use Rattle.ck_store.specs.Labels.{IsMarked}
use Rattle.ck_store.proofs.Readings.{matching-agree}
use Rattle.ck_store.proofs.stores.Store.find.Goals as goal

pub returns : goal.returns
returns c =
    let marked =
    subst (IsMarked c.self.inside.objects) (sym c.deref-2.ensures.value) c.self.invariant.2 in
    record {
      found = IfOk-weaker c.find_matching.result _ _
          (λ numbers found h agree view. found marked
          ∙ rw (c.deref.ensures.value, view)
          (matching-agree h _ (rw (← c.self.view_is) at agree) c.args.template.now.items))
          c.find_matching.ensures.found;
      none = λ h agree view empty. c.find_matching.ensures.none marked
          (rw (c.deref.ensures.value, view)
          (matching-agree h _ (rw (← c.self.view_is) at agree) c.args.template.now.items ∙ empty));
    }
