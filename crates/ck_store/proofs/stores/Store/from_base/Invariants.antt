use Rattle.std.proofs.Common.{◌≡◌}
use Rattle.ck_store.proofs.KeptLemmas.{HasFirst}
use Rattle.ck_store.proofs.stores.Store.from_base.Given as goal

-- the store has the objects so far
abbrev pub invariant-loop-object : goal.invariant-loop-object
invariant-loop-object l = record {
  items : l.object-items ≡ l.base.objects;
  first : HasFirst l.base l.object-index l.store;
}
