use Rattle.std.proofs.Common.{sym, ◌∙◌}
use Rattle.std.proofs.lemmas.Bool.{not-true}
use Rattle.ck_journal.proofs.BoardLemmas.{stays}
use Rattle.ck_journal.proofs.calls.Call.keeps_board.Goals as goal

pub returns-clause-stays : goal.returns-clause-stays
returns-clause-stays c t =
    stays c.args.self.now (sym c.is_about_sessions.ensures ∙ not-true c.is_about_sessions.result t)
