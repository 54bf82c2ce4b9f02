use Rattle.std.proofs.Common.{◌≡◌, ◌≤◌, length, sym, ap, ◌∙◌, arith}
use mathlib.Core.List.{IsPrefix}
use Rattle.ck_journal.specs.Histories.{entry_count}
use Rattle.ck_callers.proofs.Adding.{adds_moves, adds_found}
use Rattle.ck_callers.proofs.Prefixes.{prefix_length}
use Rattle.ck_callers.proofs.Lengths.{count_is, entry_added}
use Rattle.ck_callers.proofs.histories.Front.add_after.Goals as goal

pub overflow_add-count : goal.overflow_add-count
overflow_add-count g c =
    let n : c.self.inside.count ≡ entry_count c.args.self.now =
    count_is _ _ _ _ c.self.invariant.0 c.self.view_is in
    omega (arith, c.requires.room)

pub overflow_add-self : goal.overflow_add-self
overflow_add-self g c =
    let n : c.self.inside.count ≡ entry_count c.args.self.now =
    count_is _ _ _ _ c.self.invariant.0 c.self.view_is in
    omega (arith, c.requires.room)

pub compare_exchange-found-requires : goal.compare_exchange-found-requires
compare_exchange-found-requires g c =
    let h = c.args.head.now.head_is in
    let offer = c.plain-offer.ensures in
    let pen = c.no_pen-pen.ensures in
    let book : c.learn.new.self.book ≡ c.args.head.now.head.book =
    c.learn.ensures.0 ∙ ap (λ s. s.book) c.again-both.ensures ∙ c.self.invariant.1
    ∙ sym (ap (λ w. w.book) h) in
    let p : IsPrefix c.self.inside.seen.log c.learn.new.self.log =
    rw c.again-both.ensures at c.learn.ensures.2 in
    let len : c.self.inside.count ≤ length c.learn.new.self.log = omega
    (arith, c.self.invariant.0, prefix_length _ _ p) in (
      ap (λ w. w.tracked) h,
      book,
      pen.0 ∙ book,
      offer.0,
      rw (ap (λ w. w.key) h, pen.1, offer.1, offer.3) (adds_moves c.learn.new.self.log
          c.args.entry.now
          c.self.inside.count len),
    )

pub invariant_of-self : goal.invariant_of-self
invariant_of-self g c =
    let p = rw c.again-both.ensures at c.learn.ensures.2 in
    let found = rw c.plain-offer.ensures.1 at (adds_found c.self.inside.count
    c.compare_exchange-found.result c.plain-offer.result.ask c.learn.new.self.log
    c.compare_exchange-found.new.seen.log c.if-found-count.false
    c.compare_exchange-found.ensures.7) in
    let added = entry_added _ c.self.inside.seen.log c.other.inside.seen.log c.learn.new.self.log
    c.compare_exchange-found.new.seen.log c.args.entry.now _ _ p c.learn.ensures.3 c.self.view_is
    c.other.view_is _ c.self.invariant.0 found in (
      added.0,
      c.compare_exchange-found.ensures.0 ∙ c.learn.ensures.0 ∙ ap (λ s. s.book) c.again-both.ensures
          ∙ c.self.invariant.1,
      rw added.1 (c.requires.legal, rw c.self.view_is at c.self.invariant.2),
    )

pub returns : goal.returns
returns g c =
    let p = rw c.again-both.ensures at c.learn.ensures.2 in
    let found = rw c.plain-offer.ensures.1 at (adds_found c.self.inside.count
    c.compare_exchange-found.result c.plain-offer.result.ask c.learn.new.self.log
    c.compare_exchange-found.new.seen.log c.if-found-count.false
    c.compare_exchange-found.ensures.7) in
    let added = entry_added _ c.self.inside.seen.log c.other.inside.seen.log c.learn.new.self.log
    c.compare_exchange-found.new.seen.log c.args.entry.now _ _ p c.learn.ensures.3 c.self.view_is
    c.other.view_is _ c.self.invariant.0 found in (added.1, added.2)
