use Rattle.std.proofs.Common.{arith}
use Rattle.ck_token.proofs.tokens.Token.open_session.Goals as goal

pub returns-in_err-error_if-4 : goal.returns-in_err-error_if-4
returns-in_err-error_if-4 c = grind arith

pub returns-in_err-error_if-5 : goal.returns-in_err-error_if-5
returns-in_err-error_if-5 c = grind arith

pub returns-in_err-error_if-6 : goal.returns-in_err-error_if-6
returns-in_err-error_if-6 c = grind arith

pub returns : goal.returns
returns c = grind arith
