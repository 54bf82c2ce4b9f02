use Rattle.std.proofs.Common.{length}
use Rattle.ck_script.specs.Lines.{lines_in}
use Rattle.ck_plays.proofs.CallerScriptLemmas.{HasCallsSoFar}
use Rattle.ck_plays.proofs.caller_scripts.calls_of.Given as goal

abbrev pub invariant-lines : goal.invariant-lines
invariant-lines l =
    HasCallsSoFar l.callers (lines_in l.fn.script) (lines_in l.rest) l.number l.calls.items

abbrev pub decreases-lines : goal.decreases-lines
decreases-lines l = length l.rest
