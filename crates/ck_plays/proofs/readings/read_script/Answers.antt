use Rattle.std.proofs.lemmas.Result.{err_from_is_err_and}
use Rattle.ck_plays.proofs.ReadingLemmas.{read-unmade}
use Rattle.ck_plays.proofs.readings.read_script.Goals as goal

pub returns-in_err-buffer-clause-err : goal.returns-in_err-buffer-clause-err
returns-in_err-buffer-clause-err g c =
    let p = err_from_is_err_and c.from_residual.result c.from_residual.ensures.1 in
    rw p.1 (λ read h. rw p.2 (read-unmade c.args.most read _ h))
