use Rattle.ck_journal.proofs.SearchLaws.{searches-return}
use Rattle.ck_journal.proofs.laws.searches_return_matches.Goals as goal

pub returns : goal.returns
returns c = searches-return
