use Rattle.std.specs.Prelude.{vec_items}
use Rattle.ck_callers.proofs.Running.{all_made}
use Rattle.ck_callers.proofs.runs.run_scripts.Goals as goal

pub returns : goal.returns
returns g c =
    all_made g.K.HistoryId.limits (vec_items c.args.scripts) (vec_items c.run_all.result)
    c.run_all.ensures.scripts
