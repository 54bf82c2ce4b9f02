use Rattle.std.proofs.Common.{◌++◌, ◌∷◌, [], ◌≤◌, ap, refl, ◌∙◌, get_or, length, map}
use Rattle.std.proofs.lemmas.List.{take_all}
use Rattle.ck_journal.specs.declared.bases.KeptObject.{KeptObject}
use Rattle.ck_store.proofs.KeptLemmas.{kept_row, HasFirst-more, StoreAgrees-started}
use Rattle.ck_store.proofs.IntactLemmas.{IsIntact-later}
use Rattle.ck_store.proofs.stores.Store.from_base.Goals as goal

pub loop-object-preserved : goal.loop-object-preserved
loop-object-preserved c =
    let object = c.object-item.result in
    let items = c.loop-object.invariant.items in
    let is =
    c.object-item.is ∙ ap (λ os. get_or os c.loop-object.object-index object) items in
    record {
      items = items;
      first = HasFirst-more c.args.base.now c.requires c.loop-object.object-index object
          c.loop-object.store c.add_kept.new.self
          (rw items at c.loop-object-test.true)
          c.loop-object.invariant.first
          (c.in_ok-add_kept.ensures.rows
          ∙ ap (λ kept. c.loop-object.store.rows ++ kept_row kept ∷ []) is)
          (c.in_ok-add_kept.ensures.creations ∙ ap (λ (kept : KeptObject). kept.number) is);
    }

pub invariant_of-store : goal.invariant_of-store
invariant_of-store c = (
  IsIntact-later c.store-2.inside.objects c.store-2.inside.index.items c.store-2.inside.lists.items
      c.store-2.inside.unlisted c.store-2.inside.creations c.args.base.now.creations
      (rw (← c.store-2.view_is) at c.loop-object.invariant.first.within) c.store-2.invariant.0,
  c.requires.creations,
  c.store-2.invariant.2,
  c.store-2.invariant.3,
)

pub returns : goal.returns
returns c =
    let all : length c.args.base.now.objects ≤ c.loop-object.object-index =
    rw c.loop-object.invariant.items at c.loop-object-test.false in
    StoreAgrees-started c.args.base.now _ c.requires
    (ap (λ s. s.rows) c.store-2.view_is ∙ c.loop-object.invariant.first.rows
    ∙ ap (map kept_row) (take_all c.loop-object.object-index c.args.base.now.objects all)) refl
