use Rattle.ck_journal.proofs.PinLaws.{logins-need-pin}
use Rattle.ck_journal.proofs.laws.logins_need_the_pin.Goals as goal

pub returns : goal.returns
returns c = logins-need-pin
