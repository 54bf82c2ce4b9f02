use Rattle.std.proofs.Common.{◌∙◌, inl, inr, arith}
use Rattle.std.proofs.lemmas.Result.{on_ok_weaker}
use Rattle.ck_store.proofs.ListLemmas.{IsListed-taken, IsListed-kept, IsListed-only, found_list}
use Rattle.ck_store.proofs.ListLemmas.{IsListed-first, IsListed-others, IsListed-first_only}
use Rattle.ck_store.proofs.session_lists.add_to_list.Goals as goal

pub returns-in-Some-clause-kept : goal.returns-in-Some-clause-kept
returns-in-Some-clause-kept c = λ s m p row listed is.
    let found =
    found_list c.args.lists.now.items c.deref.result.now c.args.session c.args.private c.in-Some.i
    c.index_mut.result.now c.deref.ensures.value c.in-Some.ensures.within c.in-Some.ensures.position
    c.index_mut.ensures.value in
    IsListed-kept c.args.lists.now.items c.args.session c.args.private c.args.place c.in-Some.i
    c.index_mut.result.now c.push.new.self found.0 c.index_mut.ensures.value found.1
    found.2 c.push.ensures.session c.push.ensures.private s m p
    (λ there. c.push.ensures.kept p row there is) listed

pub returns-in-Some-clause-added : goal.returns-in-Some-clause-added
returns-in-Some-clause-added c =
    let found =
    found_list c.args.lists.now.items c.deref.result.now c.args.session c.args.private c.in-Some.i
    c.index_mut.result.now c.deref.ensures.value c.in-Some.ensures.within c.in-Some.ensures.position
    c.index_mut.ensures.value in
    on_ok_weaker c.push.result
    (IsListed-taken c.args.lists.now.items c.args.session c.args.private c.args.place c.in-Some.i
    c.index_mut.result.now c.push.new.self found.0 c.index_mut.ensures.value found.1
    found.2 c.push.ensures.session c.push.ensures.private) c.push.ensures.added

pub returns-in-Some-clause-only : goal.returns-in-Some-clause-only
returns-in-Some-clause-only c = λ s m p.
    let found =
    found_list c.args.lists.now.items c.deref.result.now c.args.session c.args.private c.in-Some.i
    c.index_mut.result.now c.deref.ensures.value c.in-Some.ensures.within c.in-Some.ensures.position
    c.index_mut.ensures.value in
    IsListed-only c.args.lists.now.items c.args.session c.args.private c.args.place c.in-Some.i
    c.index_mut.result.now c.push.new.self found.0 c.index_mut.ensures.value found.1
    found.2 c.push.ensures.session c.push.ensures.private s m p (c.push.ensures.only p)

pub returns-clause-kept : goal.returns-clause-kept
returns-clause-kept c = λ s m p row listed is.
    rw c.in_ok-push-2.ensures.items
    (IsListed-others c.args.lists.now.items c.args.session c.args.private c.args.place
    c.push-2.new.self
    (c.in_ok-push.ensures.session ∙ c.new-list.ensures.session)
    (c.in_ok-push.ensures.private ∙ c.new-list.ensures.private) s m p listed)

pub returns-clause-added : goal.returns-clause-added
returns-clause-added c =
    rw c.in_ok-push-2.ensures.items
    (IsListed-first c.args.lists.now.items c.args.session c.args.private c.args.place
    c.push-2.new.self
    (c.in_ok-push.ensures.session ∙ c.new-list.ensures.session)
    (c.in_ok-push.ensures.private ∙ c.new-list.ensures.private) c.in_ok-push.ensures.added)

pub returns-clause-only : goal.returns-clause-only
returns-clause-only c = λ s m p listed.
    IsListed-first_only c.args.lists.now.items c.args.session c.args.private c.args.place
    c.push-2.new.self
    (c.in_ok-push.ensures.session ∙ c.new-list.ensures.session)
    (c.in_ok-push.ensures.private ∙ c.new-list.ensures.private)
    (λ q there. elim (c.in_ok-push.ensures.only q there) [
      | inl old ↦ absurd (omega (arith, (rw c.new-list.ensures.places at old).1))
      | inr same ↦ same
    ]) s m p (rw c.in_ok-push-2.ensures.items at listed)
