use Rattle.ck_journal.proofs.CutLaws.{cut_law}
use Rattle.ck_journal.proofs.cuts.cut_law.Goals as goal

pub returns : goal.returns
returns c = cut_law
