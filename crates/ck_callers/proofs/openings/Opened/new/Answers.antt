use Rattle.std.proofs.Common.{map, sym, ap, ◌∙◌, subst}
use Rattle.ck_callers.specs.Accounts.{AreNew}
use Rattle.ck_callers.specs.Callers.{new_caller}
use Rattle.ck_callers.proofs.NewAccounts.{all_new}
use Rattle.ck_callers.proofs.openings.Opened.new.Goals as goal

pub callers_of-requires-clause-counts : goal.callers_of-requires-clause-counts
callers_of-requires-clause-counts g c =
    subst AreNew (sym c.in_ok-books.ensures.accounts) (all_new c.args.callers)

pub returns-clause-callers : goal.returns-clause-callers
returns-clause-callers g c =
    c.in_ok-callers.ensures ∙ ap (map (new_caller g.K.HistoryId.base))
    c.in_ok-books.ensures.accounts
