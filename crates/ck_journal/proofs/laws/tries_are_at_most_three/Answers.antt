use Rattle.ck_journal.proofs.LegalLemmas.{tries-bound}
use Rattle.ck_journal.proofs.laws.tries_are_at_most_three.Goals as goal

pub returns : goal.returns
returns c = λ limits h good. tries-bound limits h good.sound good.legal
