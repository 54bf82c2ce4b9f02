use Rattle.std.proofs.Common.{ap, ◌∙◌}
use Rattle.std.specs.Prelude.{map}
use Rattle.ck_store.specs.Rows.{kept_of}
use Rattle.ck_store.proofs.KeptLemmas.{kept_of-agree}
use Rattle.ck_store.proofs.stores.Store.kept.Goals as goal

pub returns : goal.returns
returns c = λ h agree.
    c.from_vec.ensures ∙ (rw c.deref.ensures.value at c.in_ok-kept.ensures)
    ∙ ap (λ s. map kept_of s.rows) c.self.view_is ∙ kept_of-agree h c.args.self.now agree
