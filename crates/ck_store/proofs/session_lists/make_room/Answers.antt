use Rattle.std.proofs.Common.{ap, subst, sym, ◌≡◌, ◌∙◌, Contains}
use Rattle.std.proofs.lemmas.List.Elements.{filter_passes}
use Rattle.std.specs.Prelude.{is_some, true, All}
use Rattle.ck_store.specs.Index.{is_there}
use Rattle.ck_store.proofs.PlaceLemmas.{Contains-passing, Contains-unfiltered}
use Rattle.ck_store.proofs.session_lists.make_room.Goals as goal

pub returns-in_err-reserve-clause-kept : goal.returns-in_err-reserve-clause-kept
returns-in_err-reserve-clause-kept c = λ p row there is.
    subst (λ ps. Contains ps p) (sym (c.in_err-reserve.ensures.items ∙ c.drop_ended.ensures))
    (Contains-passing (is_there c.args.objects.now) c.args.places.now.items p there (ap is_some is))

pub returns-in_err-reserve-clause-only : goal.returns-in_err-reserve-clause-only
returns-in_err-reserve-clause-only c = λ p there.
    Contains-unfiltered (is_there c.args.objects.now) c.args.places.now.items p
    (subst (λ ps. Contains ps p) (c.in_err-reserve.ensures.items ∙ c.drop_ended.ensures) there)

pub returns-in_ok-reserve-clause-kept : goal.returns-in_ok-reserve-clause-kept
returns-in_ok-reserve-clause-kept c = λ p row there is.
    subst (λ ps. Contains ps p) (sym (c.in_ok-reserve.ensures.items ∙ c.drop_ended.ensures))
    (Contains-passing (is_there c.args.objects.now) c.args.places.now.items p there (ap is_some is))

pub returns-in_ok-reserve-clause-only : goal.returns-in_ok-reserve-clause-only
returns-in_ok-reserve-clause-only c = λ p there.
    Contains-unfiltered (is_there c.args.objects.now) c.args.places.now.items p
    (subst (λ ps. Contains ps p) (c.in_ok-reserve.ensures.items ∙ c.drop_ended.ensures) there)

pub returns-in_err-reserve-clause-dropped : goal.returns-in_err-reserve-clause-dropped
returns-in_err-reserve-clause-dropped c = λ full.
    subst (All (λ p. is_there c.args.objects.now p ≡ true))
    (sym (c.in_err-reserve.ensures.items ∙ c.drop_ended.ensures))
    (filter_passes (is_there c.args.objects.now) c.args.places.now.items)

pub returns-in_ok-reserve-clause-dropped : goal.returns-in_ok-reserve-clause-dropped
returns-in_ok-reserve-clause-dropped c = λ full.
    subst (All (λ p. is_there c.args.objects.now p ≡ true))
    (sym (c.in_ok-reserve.ensures.items ∙ c.drop_ended.ensures))
    (filter_passes (is_there c.args.objects.now) c.args.places.now.items)
