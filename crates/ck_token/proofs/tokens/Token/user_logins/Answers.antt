use Rattle.std.proofs.Common.{◌<◌}
use Rattle.ck_journal.proofs.LegalLemmas.{user_logins-bound}
use Rattle.ck_journal.specs.Sessions.{user_logins}
use Rattle.ck_token.proofs.tokens.Token.user_logins.Goals as goal

pub returns-clause-bound : goal.returns-clause-bound
returns-clause-bound c =
    let agree = c.self.invariant in
    let h = c.self.inside.journal.history in
    let below : user_logins h < 2147483648 = user_logins-bound c.self.inside.limits agree.ranges h
    agree.parts.objects.sound agree.legal in
    rw (c.logins.ensures.logins h agree.parts.sessions) below
