use Rattle.std.proofs.Common.{◌≡◌}
use Rattle.ck_journal.specs.Answers.{IsLegal}
use Rattle.ck_journal.specs.Fronts.{extended_by}
use Rattle.ck_audit.proofs.audits.replay.Given as goal

-- the token has answered the entries so far as they are, and they are legal
abbrev pub invariant-loop-entry : goal.invariant-loop-entry
invariant-loop-entry g l = let token = g.T.JournaledToken.state l.token in record {
  limits : token.limits ≡ (g.T.JournaledToken.state l.fn.token).limits;
  history : l.fn.journal.history ≡ extended_by token.history l.entry-iterator;
  legal : IsLegal token.limits token.history;
}
