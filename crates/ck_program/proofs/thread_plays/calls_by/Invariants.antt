use Rattle.std.proofs.Common.{◌≡◌, take}
use Rattle.ck_program.specs.CallerCalls.{calls_by}
use Rattle.ck_program.proofs.thread_plays.calls_by.Given as goal

-- the caller's calls so far
abbrev pub invariant-loop-call : goal.invariant-loop-call
invariant-loop-call l = l.own.items ≡ calls_by l.number (take l.call-index l.calls)
