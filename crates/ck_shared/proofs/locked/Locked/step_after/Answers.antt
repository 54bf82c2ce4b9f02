use Rattle.std.proofs.Common.{◌≡◌, refl, sym, ap, ◌∙◌, subst, arith}
use Rattle.left_right.specs.Handles.{published}
use Rattle.ck_journal.specs.Callers.{AreCallers, call_counts}
use Rattle.ck_journal.specs.Fronts.{IsFront}
use Rattle.ck_journal.specs.Histories.{◌◁◌, entry_count}
use Rattle.ck_journal.specs.TokenStates.{IsAnswered, entry_of}
use Rattle.ck_callers.specs.Callers.{IsNextCall, entry_by}
use Rattle.ck_callers.specs.KnownHistories.{Covers}
use Rattle.ck_shared.proofs.Shown.{covered_on, if_none}
use Rattle.ck_shared.proofs.locked.Locked.step_after.Goals as goal

pub invariant_of-self : goal.invariant_of-self
invariant_of-self g c =
    let tied = c.self.invariant.0 in (
      record {
        limits = tied.limits;
        callers = tied.callers;
        books = tied.books;
        history = tied.history;
        published = subst (Covers c.self.inside.known) (sym c.in_err-slot.ensures.published)
            tied.published;
      },
      c.in_err-slot.ensures.unchanged ∙ c.self.invariant.1,
    )

pub publish_board-requires-clause-published : goal.publish_board-requires-clause-published
publish_board-requires-clause-published g c =
    if_none c.in_ok-slot.slot c.in_ok-slot.ensures.none (λ kept. (
      subst (Covers c.self.inside.known) (sym c.in_ok-slot.ensures.published)
          c.self.invariant.0.published,
      kept.1 ∙ c.self.invariant.1,
    ))

pub invariant_of-self-in_default : goal.invariant_of-self-in_default
invariant_of-self-in_default g c =
    let tied = c.self.invariant.0 in
    let same = c.in_default.ensures.unchanged in (
      record {
        limits = same.limits ∙ tied.limits;
        callers = subst (AreCallers g.K.TokenId.callers) (sym same.history) tied.callers;
        books = tied.books ∙ ap call_counts (sym same.history);
        history = tied.history ∙ sym same.history;
        published = c.publish_board.ensures.board;
      },
      c.publish_board.ensures.pending,
    )

pub extend-requires-clause-next : goal.extend-requires-clause-next
extend-requires-clause-next g c =
    let token = g.T.JournaledToken.state c.self.inside.token in
    let entry = entry_of token.limits token.history c.number-number.result c.args.call in
    let before : c.duplicate-front.result ≡ token.history =
    c.duplicate-front.ensures ∙ c.front.ensures ∙ c.self.invariant.0.history in
    (entry, c.in-Ok.ensures.answered.entered ∙ ap (λ h. entry ◁ h) (sym before))

pub follow-requires : goal.follow-requires
follow-requires g c =
    let token = g.T.JournaledToken.state c.self.inside.token in
    let entry = entry_of token.limits token.history c.number-number.result c.args.call in
    record {
      entry = entry;
      next = c.extend.ensures.0 ∙ c.in-Ok.ensures.answered.entered
          ∙ ap (λ h. entry ◁ h) (sym c.self.invariant.0.history);
      caller = refl;
      range = (c.number-number.ensures.range.0, c.number-number.ensures.range.1);
      room = omega (
        arith,
        c.len-bound.ensures,
        ap entry_count c.journal.ensures.history,
        ap entry_count c.extend.ensures.0,
        c.len-bound.type_inv,
      );
      same_board = c.keeps_board-keeps_board.ensures.stays;
    }

pub follow-requires-2 : goal.follow-requires-2
follow-requires-2 g c =
    let caller = c.args.caller.now in
    let h = (g.T.JournaledToken.state c.self.inside.token).history in
    let answered = c.in-Ok.ensures.answered in
    let entered : (g.T.JournaledToken.state c.call_after.new.self).history
    ≡ entry_by caller.number c.args.call c.in-Ok.reply ◁ h =
    answered.entered ∙ ap (λ r. entry_by c.number-number.result c.args.call r ◁ h)
    (sym answered.answered)
    ∙ ap (λ n. entry_by n c.args.call c.in-Ok.reply ◁ h)
    (c.number-number.ensures.value ∙ c.account.ensures.number) in
    let front : IsFront caller.seen h =
    subst (λ seen. IsFront seen h) (c.front-2.ensures ∙ c.known.ensures)
    (subst (IsFront c.front-2.result.now)
    (c.duplicate-front.ensures ∙ c.front.ensures ∙ c.self.invariant.0.history)
    c.extend.ensures.1) in
    let next : IsNextCall caller c.self.inside.books c.args.call c.in-Ok.reply
    c.follow.new.self.history =
    record {
      before = h;
      front = front;
      counted = c.self.invariant.0.books;
      next = c.follow.ensures.history ∙ c.extend.ensures.0 ∙ entered;
    } in
    (c.args.call, c.in-Ok.reply, next)

pub publish_board-requires-2-clause-published : goal.publish_board-requires-2-clause-published
publish_board-requires-2-clause-published g c =
    let h = (g.T.JournaledToken.state c.self.inside.token).history in
    let answered = c.in-Ok.ensures.answered in
    let entered : (g.T.JournaledToken.state c.call_after.new.self).history
    ≡ entry_by c.number-number.result c.args.call c.in-Ok.reply ◁ h =
    answered.entered ∙ ap (λ r. entry_by c.number-number.result c.args.call r ◁ h)
    (sym answered.answered) in
    if_none c.in_ok-slot.slot c.in_ok-slot.ensures.none (λ kept. (
      covered_on (entry_by c.number-number.result c.args.call c.in-Ok.reply)
          c.keeps_board-keeps_board.result
          c.self.inside.known c.follow.new.self h c.extend.new.front
          (published c.self.inside.writer) (published c.add_slot.new.writer) kept.0
          c.follow.ensures.changed c.follow.ensures.history (c.extend.ensures.0 ∙ entered)
          c.self.invariant.0.history c.in_ok-slot.ensures.published
          c.self.invariant.0.published,
      kept.1 ∙ c.self.invariant.1,
    ))

pub returns-clause-called : goal.returns-clause-called
returns-clause-called g c =
    let caller = c.args.caller.now in
    let h = (g.T.JournaledToken.state c.self.inside.token).history in
    let answered = c.in-Ok.ensures.answered in
    let entered : (g.T.JournaledToken.state c.call_after.new.self).history
    ≡ entry_by caller.number c.args.call c.in-Ok.reply ◁ h =
    answered.entered ∙ ap (λ r. entry_by c.number-number.result c.args.call r ◁ h)
    (sym answered.answered)
    ∙ ap (λ n. entry_by n c.args.call c.in-Ok.reply ◁ h)
    (c.number-number.ensures.value ∙ c.account.ensures.number) in
    let front : IsFront caller.seen h =
    subst (λ seen. IsFront seen h) (c.front-2.ensures ∙ c.known.ensures)
    (subst (IsFront c.front-2.result.now)
    (c.duplicate-front.ensures ∙ c.front.ensures ∙ c.self.invariant.0.history)
    c.extend.ensures.1) in
    c.follow-2.ensures.called c.args.call c.in-Ok.reply (record {
      before = h;
      front = front;
      counted = c.self.invariant.0.books;
      next = c.follow.ensures.history ∙ c.extend.ensures.0 ∙ entered;
    })

pub invariant_of-self-2 : goal.invariant_of-self-2
invariant_of-self-2 g c =
    let tied = c.self.invariant.0 in
    let answered = c.in-Ok.ensures.answered in
    let known = c.follow.ensures.history ∙ c.extend.ensures.0 in (
      record {
        limits = answered.limits ∙ tied.limits;
        callers = subst (AreCallers g.K.TokenId.callers) (sym answered.entered)
            (c.number-number.ensures.range.0, c.number-number.ensures.caller, tied.callers);
        books = c.follow-2.ensures.books ∙ ap call_counts known;
        history = known;
        published = c.publish_board-2.ensures.board;
      },
      c.publish_board-2.ensures.pending,
    )

pub returns-clause-answered : goal.returns-clause-answered
returns-clause-answered g c =
    let old = g.T.JournaledToken.state c.self.inside.token in
    let new = g.T.JournaledToken.state c.call_after.new.self in
    rw (← c.self.view_is) (subst (λ n. IsAnswered old new n c.args.call c.in-Ok.reply)
    (c.number-number.ensures.value ∙ c.account.ensures.number) c.in-Ok.ensures.answered)
