use Rattle.std.proofs.Common.{◌+◌, ◌*◌, length}
use Rattle.std.specs.Prelude.{vec_items}
use Rattle.ck_shared.proofs.sharing.+act_together+fn-act_together-scope.Given as goal

-- how many callers are left, first with the one that is started and then without
abbrev pub decreases-act_together : goal.decreases-act_together
decreases-act_together g l = 2 * length (vec_items l.callers)

abbrev pub decreases-scope : goal.decreases-scope
decreases-scope g l = 2 * length (vec_items l.callers) + 1
