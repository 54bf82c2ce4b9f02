use Rattle.std.proofs.Common.{◌++◌, ◌<◌, ◌∙◌, sym, ap, refl, length, get_or, arith}
use Rattle.std.proofs.lemmas.List.{append-nil}
use Rattle.ck_store.specs.Index.{place, object_at}
use Rattle.ck_store.proofs.PlaceLemmas.{matching-step, match_of-some, match_of-none}
use Rattle.ck_store.proofs.PlaceLemmas.{matching-some}
use Rattle.ck_store.proofs.places.find_matching.Goals.{in-Some+in_ok-push, in_default}
use Rattle.ck_store.proofs.places.find_matching.Goals as goal

pub loop-place-preserved : goal.loop-place-preserved
loop-place-preserved c = λ marked.
    let within : c.loop-place.place-index < length c.args.index.now = omega arith in
    let object =
    object_at c.args.objects.now (get_or c.args.index.now c.loop-place.place-index (place 0 0)) in
    elim c.match-match_at.branch [
      | in-Some+in_ok-push w ↦
          matching-step c.args.view c.args.template.now.items c.args.objects.now c.args.index.now
          c.loop-place.place-index within c.loop-place.numbers.items
          (c.loop-place.invariant marked) object refl c.match-match_at.numbers.items
          (ap (λ v. v.items) w.numbers-is ∙ w.in_ok-push.ensures.items
          ∙ ap (λ ns. c.loop-place.numbers.items ++ ns)
          (match_of-some c.args.view c.args.template.now.items c.args.objects.now c.args.index.now
          object w.in-Some.number (w.in-Some.ensures marked c.wanted_mark-wanted.ensures)))
      | in_default w ↦
          matching-step c.args.view c.args.template.now.items c.args.objects.now c.args.index.now
          c.loop-place.place-index within c.loop-place.numbers.items
          (c.loop-place.invariant marked) object refl c.match-match_at.numbers.items
          (ap (λ v. v.items) w.numbers-is ∙ sym (append-nil c.loop-place.numbers.items)
          ∙ ap (λ ns. c.loop-place.numbers.items ++ ns)
          (match_of-none c.args.view c.args.template.now.items c.args.objects.now c.args.index.now
          object (w.in_default.ensures marked c.wanted_mark-wanted.ensures)))
    ]

-- a number that found no room is one that was found
pub returns-in_err-push-clause-none : goal.returns-in_err-push-clause-none
returns-in_err-push-clause-none c = λ marked empty.
    let within : c.loop-place.place-index < length c.args.index.now = omega arith in
    absurd (matching-some c.args.view c.args.template.now.items c.args.objects.now c.args.index.now
    c.loop-place.place-index c.in-Some.number within
    (c.in-Some.ensures marked c.wanted_mark-wanted.ensures) empty)
