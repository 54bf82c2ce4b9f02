use Rattle.ck_journal.proofs.PinLaws.{officer-sets_pin}
use Rattle.ck_journal.proofs.laws.user_pins_are_set_by_the_officer.Goals as goal

pub returns : goal.returns
returns c = officer-sets_pin
