use Rattle.std.proofs.Common.{◌≡◌, sym, ◌∙◌, subst}
use Rattle.ck_journal.specs.declared.replies.Reply.{Reply}
use Rattle.ck_parts.specs.Changes.{change_of, effect}
use Rattle.ck_token.proofs.DecisionLemmas.{allowed-effect}
use Rattle.ck_token.proofs.tokens.Token.decide.Goals as goal

pub returns-in-Ok-clause-change : goal.returns-in-Ok-clause-change
returns-in-Ok-clause-change c =
    let h = c.args.self.now.history in
    let decided = c.in-Ok.ensures in
    decided.2 ∙ subst (λ (r : Reply). change_of h c.args.call.now r.body
    ≡ effect h c.args.call.now r) (sym decided.1)
    (allowed-effect c.args.self.now.limits h c.args.call.now)
