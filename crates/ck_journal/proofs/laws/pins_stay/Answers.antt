use Rattle.ck_journal.proofs.PinLaws.{pins-stay}
use Rattle.ck_journal.proofs.laws.pins_stay.Goals as goal

pub returns : goal.returns
returns c = pins-stay
