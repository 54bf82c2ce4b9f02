use Rattle.ck_journal.proofs.FrontLemmas.{front_trans}
use Rattle.ck_callers.proofs.Asked.{own_same}
use Rattle.ck_callers.proofs.callers.Caller.status.Goals as goal

pub invariant_of-self-2 : goal.invariant_of-self-2
invariant_of-self-2 g c = (
  front_trans c.self.inside.last c.self.inside.known.history c.in_ok-status.known.history
      c.self.invariant.0
      c.in_ok-status.ensures.front,
  c.self.invariant.1,
)

pub returns-clause-own : goal.returns-clause-own
returns-clause-own g c =
    own_same c.self.inside.account.number c.self.inside.account.count c.self.inside.last
    c.self.inside.known.history
    c.in_ok-status.known.history c.self.invariant.0
    c.in_ok-status.ensures.front c.self.invariant.1 c.in_ok-status.ensures.count
