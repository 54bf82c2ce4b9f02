use Rattle.std.proofs.Common.{arith}
use Rattle.ck_token.proofs.tokens.Token.init_token.Goals as goal

pub returns-in_err-check_pin : goal.returns-in_err-check_pin
returns-in_err-check_pin c = grind arith

pub returns-in_err-check_lock : goal.returns-in_err-check_lock
returns-in_err-check_lock c = grind arith

pub returns-in_err-error_if-2 : goal.returns-in_err-error_if-2
returns-in_err-error_if-2 c = grind arith

pub returns : goal.returns
returns c = grind arith
