use Rattle.std.proofs.Common.{arith}
use Rattle.ck_token.proofs.tokens.Token.check_login.Goals as goal

pub returns-in_err-check_lock : goal.returns-in_err-check_lock
returns-in_err-check_lock c = grind arith

pub returns-in_err-check_pin : goal.returns-in_err-check_pin
returns-in_err-check_pin c = grind arith

pub returns-in_err-check_login_count : goal.returns-in_err-check_login_count
returns-in_err-check_login_count c = grind arith
