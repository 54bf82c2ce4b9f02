use Rattle.std.proofs.Common.{◌+◌, ◌*◌, length}
use Rattle.std.specs.Prelude.{vec_items}
use Rattle.ck_callers.proofs.runs.+fn-run_all-scope+run_all.Given as goal

-- how many scripts are left, first with the one that is started and then without
abbrev pub decreases-run_all : goal.decreases-run_all
decreases-run_all g l = 2 * length (vec_items l.scripts)

abbrev pub decreases-scope : goal.decreases-scope
decreases-scope g l = 2 * length (vec_items l.scripts) + 1
