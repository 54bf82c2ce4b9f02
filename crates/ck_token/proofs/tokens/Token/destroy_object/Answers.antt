use Rattle.std.proofs.Common.{arith}
use Rattle.ck_types.proofs.CheckLemmas.{check_of-ok, check_of-err}
use Rattle.ck_token.proofs.tokens.Token.destroy_object.Goals as goal

pub returns-in_err-check_writable : goal.returns-in_err-check_writable
returns-in_err-check_writable c = grind (arith, check_of-ok, check_of-err)

pub returns-in_err-check_flag : goal.returns-in_err-check_flag
returns-in_err-check_flag c = grind (arith, check_of-ok, check_of-err)

pub returns : goal.returns
returns c = grind (arith, check_of-ok, check_of-err)
