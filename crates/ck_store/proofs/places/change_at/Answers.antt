use Rattle.std.proofs.Common.{◌≡◌, ◌∙◌, Some, sym, refl, subst}
use Rattle.std.proofs.lemmas.Option.{same_Some}
use Rattle.slab.specs.Slab.{get}
use Rattle.slab.proofs.SlabLemmas.{Updates-with_value}
use Rattle.ck_store.specs.Labels.{IsMarkOf}
use Rattle.ck_store.specs.Rows.{ObjectRow}
use Rattle.ck_store.proofs.LabelLemmas.{IsGiven-under}
use Rattle.ck_store.proofs.places.change_at.Goals as goal

pub change-requires : goal.change-requires
change-requires c = c.requires c.in-Some.object.now (sym c.in-Some.ensures.value)

pub returns-in-Some : goal.returns-in-Some
returns-in-Some c =
    let is_old : get c.args.objects.now c.args.key ≡ Some c.in-Some.object.now =
    sym c.in-Some.ensures.value in
    record {
      given = λ number is_key.
          IsGiven-under number c.args.values.items c.args.objects.now c.args.key
          c.in-Some.object.now c.change.new.self is_old c.change.ensures.others is_key
          c.change.ensures.given c.change.ensures.private;
      mark = λ row is.
          let here = (Updates-with_value c.args.objects.now c.args.key c.change.new.self
          (rw is_old refl)).changed in
          subst (λ (r : ObjectRow). IsMarkOf r.attributes c.mark_of.result)
          (same_Some c.change.new.self row (sym here ∙ is))
          (rw c.attributes.ensures at c.mark_of.ensures);
    }
