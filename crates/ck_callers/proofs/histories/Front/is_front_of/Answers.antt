use Rattle.std.proofs.Common.{◌≡◌, ◌≤◌, arith}
use Rattle.std.proofs.lemmas.Bool.Decides.{nat_tests}
use Rattle.ck_journal.specs.Histories.{entry_count}
use Rattle.ck_callers.proofs.Lengths.{count_is, shorter_begins}
use Rattle.ck_callers.proofs.histories.Front.is_front_of.Goals as goal

pub returns-clause-shorter : goal.returns-clause-shorter
returns-clause-shorter g c =
    let one : c.self.inside.count ≡ entry_count c.args.self.now =
    count_is _ _ _ _ c.self.invariant.0 c.self.view_is in
    let two : c.other.inside.count ≡ entry_count c.args.other.now =
    count_is _ _ _ _ c.other.invariant.0
    c.other.view_is in
    ((λ t. grind (arith, nat_tests)), (λ le. grind (arith, nat_tests)))

pub returns-clause-front : goal.returns-clause-front
returns-clause-front g c t =
    let le : c.self.inside.count ≤ c.other.inside.count = grind (arith, nat_tests) in
    shorter_begins _ c.self.inside.seen.log c.other.inside.seen.log c.learn.new.self.log _ _
    (rw c.again-both.ensures at c.learn.ensures.2) c.learn.ensures.3 c.self.view_is c.other.view_is
    (omega (arith, c.self.invariant.0, c.other.invariant.0))

pub returns-clause-longer : goal.returns-clause-longer
returns-clause-longer g c f =
    let le : c.other.inside.count ≤ c.self.inside.count = grind (arith, nat_tests) in
    shorter_begins _ c.other.inside.seen.log c.self.inside.seen.log c.learn.new.self.log _ _
    c.learn.ensures.3 (rw c.again-both.ensures at c.learn.ensures.2) c.other.view_is c.self.view_is
    (omega (arith, c.self.invariant.0, c.other.invariant.0))
