use Rattle.std.proofs.Common.{◌≡◌, ◌↔◌}
use Rattle.ck_audit.specs.Replies.{replies_to}
use Rattle.ck_audit.proofs.comparisons.are_replies_of.Given as goal

-- all replies are those of all entries exactly where those that are left are of those to come
abbrev pub invariant-loop-entry : goal.invariant-loop-entry
invariant-loop-entry l = (l.fn.replies ≡ replies_to l.fn.caller l.fn.entries)
    ↔ (l.left ≡ replies_to l.fn.caller l.entry-iterator)
