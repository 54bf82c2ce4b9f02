use Rattle.std.proofs.Common.{rules}
use Rattle.ck_script.proofs.MeaningLemmas.{words_take_memory}
use Rattle.ck_script.proofs.lines.words_meaning.Goals as goal

pub returns-in_err-call-clause-memory : goal.returns-in_err-call-clause-memory
returns-in_err-call-clause-memory c = λ lacks.
    words_take_memory c.args.words c.in_ok-caller.caller.now c.in_ok-name.name.now
    c.next-2.new.self c.in_ok-caller-2.caller (search rules) (search rules)
    (c.call_in.ensures.memory (search rules))
