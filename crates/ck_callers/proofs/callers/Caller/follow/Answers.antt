use Rattle.std.proofs.Common.{◌<◌, ◌^◌, ap, ◌∙◌, subst, arith}
use Rattle.ck_journal.specs.Answers.{IsLegal}
use Rattle.ck_journal.specs.Histories.{entry_count}
use Rattle.ck_journal.proofs.FrontLemmas.{front_refl}
use Rattle.ck_callers.proofs.Following.{count_fits, count_next, books_next, called}
use Rattle.ck_callers.proofs.callers.Caller.follow.Goals as goal

pub count-requires : goal.count-requires
count-requires g c =
    let next = rw (← c.self.view_is) at c.requires.2 in
    let range = rw c.number-number.ensures.value at c.number-number.ensures.range in
    let room : entry_count c.args.known.now.history < 2 ^ 64 =
    omega (
      arith,
      c.len-entries.ensures.length,
      ap entry_count c.front.ensures,
      c.len-entries.type_inv,
    ) in
    count_fits _ _ _ _ _ next range room

pub invariant_of-self : goal.invariant_of-self
invariant_of-self g c =
    let next = rw (← c.self.view_is) at c.requires.2 in
    let range = rw c.number-number.ensures.value at c.number-number.ensures.range in
    rw (c.duplicate-2.ensures, c.duplicate.ensures, c.front-2.ensures, c.count.ensures.account) (
      front_refl c.args.known.now.history,
      count_next _ _ _ _ _ next range c.count.ensures.same,
    )

pub returns-clause-called : goal.returns-clause-called
returns-clause-called g c = λ call reply entered.
    let next = rw (← c.self.view_is) at entered in
    let range = rw c.number-number.ensures.value at c.number-number.ensures.range in
    let legal = subst (IsLegal g.K.HistoryId.limits) c.front.ensures c.len-entries.ensures.legal in
    rw (
      ← c.self.view_is,
      c.duplicate-2.ensures,
      c.duplicate.ensures,
      c.front-2.ensures,
      c.count.ensures.account,
    ) (called _ _ _ _ _ next range c.count.ensures.same g.K.HistoryId.limits
    c.self.invariant.0 c.self.invariant.1 legal)

pub returns-clause-seen : goal.returns-clause-seen
returns-clause-seen g c = ap (λ k. k.history) c.duplicate-2.ensures

pub returns-clause-books : goal.returns-clause-books
returns-clause-books g c =
    let next = rw (← c.self.view_is) at c.requires.2 in
    let range = rw c.number-number.ensures.value at c.number-number.ensures.range in
    c.count.ensures.books ∙ books_next _ _ _ _ _ next range c.count.ensures.same
