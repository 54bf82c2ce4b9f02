use Rattle.std.proofs.Common.{false, refl}
use Rattle.ck_script.specs.Lines.{line_end}
use Rattle.ck_script.proofs.WordLemmas.{words_left-some, words_left-none}
use Rattle.ck_script.proofs.lines.cut_line.Goals as goal

pub returns-in_err-at-clause-lines : goal.returns-in_err-at-clause-lines
returns-in_err-at-clause-lines c =
    rw c.from_residual.ensures
    (words_left-none line_end false c.args.bytes.now refl c.in_err-at.ensures)

pub returns-clause-lines : goal.returns-clause-lines
returns-clause-lines c =
    words_left-some line_end false c.args.bytes.now c.in_ok-at.at refl c.in_ok-at.ensures
