use Rattle.std.proofs.Common.{sym, ◌∙◌}
use Rattle.ck_callers.proofs.AllCallers.{all_here, one_missing}
use Rattle.ck_callers.proofs.counts.+covers_all.Goals as goal

pub returns-then-has_caller : goal.returns-then-has_caller
returns-then-has_caller g size c =
    all_here c.args.most c.args.callers.now c.covers_all.result c.if-most-eq0.false
    (sym c.has_caller.ensures ∙ c.if-has_caller.true) c.covers_all.ensures

pub returns-else-has_caller : goal.returns-else-has_caller
returns-else-has_caller g size c =
    c.if-has_caller.false ∙ one_missing c.args.most c.args.callers.now c.if-most-eq0.false
    (sym c.has_caller.ensures ∙ c.if-has_caller.false)
