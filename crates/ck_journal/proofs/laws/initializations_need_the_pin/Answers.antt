use Rattle.ck_journal.proofs.PinLaws.{initializations-need-pin}
use Rattle.ck_journal.proofs.laws.initializations_need_the_pin.Goals as goal

pub returns : goal.returns
returns c = initializations-need-pin
