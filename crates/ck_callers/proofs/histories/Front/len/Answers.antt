use Rattle.std.proofs.Common.{subst}
use Rattle.ck_journal.specs.Fronts.{IsFront}
use Rattle.ck_journal.specs.Histories.{start}
use Rattle.ck_journal.proofs.FrontLemmas.{front_extended}
use Rattle.ck_callers.proofs.Lengths.{count_is}
use Rattle.ck_callers.proofs.histories.Front.len.Goals as goal

pub returns-clause-length : goal.returns-clause-length
returns-clause-length g c = count_is _ _ _ _ c.self.invariant.0 c.self.view_is

pub returns-clause-base : goal.returns-clause-base
returns-clause-base g c =
    let base = g.K.HistoryId.base in
    subst (IsFront (start base)) c.self.view_is (front_extended (start base) c.self.inside.seen.log)
