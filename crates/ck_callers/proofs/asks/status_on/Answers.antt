use Rattle.std.proofs.Common.{sym, ap, ◌∙◌}
use Rattle.ck_journal.specs.Answers.{answer}
use Rattle.ck_callers.specs.Asks.{call_of_ask}
use Rattle.ck_callers.proofs.asks.status_on.Goals as goal

pub returns-in-Session : goal.returns-in-Session
returns-in-Session c limits h is =
    c.session_info.ensures limits h is
    ∙ ap (λ a. answer limits h (call_of_ask a)) (sym c.in-Session.is)

pub returns-in-Token : goal.returns-in-Token
returns-in-Token c limits h is =
    c.token_info.ensures limits h is ∙ ap (λ a. answer limits h (call_of_ask a)) (sym c.in-Token.is)
