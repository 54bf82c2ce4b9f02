use Rattle.ck_mac.specs.Computations.{digest_by}
use Rattle.ck_parts.proofs.additions.start_digest.Goals as goal

pub returns : goal.returns
returns c = λ h e now. c.start.ensures.agree h e (digest_by c.args.hash) now c.new.ensures
