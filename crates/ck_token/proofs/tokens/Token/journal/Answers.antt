use Rattle.ck_token.proofs.CutLemmas.{good-history}
use Rattle.ck_token.proofs.tokens.Token.journal.Goals as goal

pub returns-clause-sound : goal.returns-clause-sound
returns-clause-sound c = rw (← c.self.view_is) (good-history _ _ _ c.self.invariant)
