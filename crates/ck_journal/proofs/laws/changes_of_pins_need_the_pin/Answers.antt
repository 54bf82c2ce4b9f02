use Rattle.ck_journal.proofs.PinLaws.{pin_changes-need-pin}
use Rattle.ck_journal.proofs.laws.changes_of_pins_need_the_pin.Goals as goal

pub returns : goal.returns
returns c = pin_changes-need-pin
