use Rattle.ck_journal.proofs.ProtectionLaws.{unextractable-stays}
use Rattle.ck_journal.proofs.laws.unextractable_stays.Goals as goal

pub returns : goal.returns
returns c = unextractable-stays
