use Rattle.ck_types.proofs.CheckLemmas.{checks}
use Rattle.std.proofs.Common.{arith}
use Rattle.ck_token.proofs.tokens.operation_calls.check_usage.Goals as goal

pub returns : goal.returns
returns c = grind (arith, checks)
