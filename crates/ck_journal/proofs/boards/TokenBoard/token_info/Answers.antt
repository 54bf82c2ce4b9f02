use Rattle.std.proofs.Common.{◌∙◌}
use Rattle.ck_journal.proofs.BoardLemmas.{info-of_token}
use Rattle.ck_journal.proofs.boards.TokenBoard.token_info.Goals as goal

pub returns : goal.returns
returns c limits h is =
    let same = c.self.view_is ∙ is in
    info-of_token limits h _ same c.of.result c.count_read_write.result c.of.ensures
    c.count_read_write.ensures
