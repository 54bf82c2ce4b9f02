use Rattle.ck_store.proofs.PlaceLemmas.{IsKeyOf-at, IsKeyOf-no_place, IsKeyOf-there, IsKeyOf-ended}
use Rattle.ck_store.proofs.places.key_of.Goals as goal

pub returns-then-is_there : goal.returns-then-is_there
returns-then-is_there c = λ is_index.
    IsKeyOf-at c.args.objects.now c.args.index.now is_index c.args.number c.guess_place-guess.result
    c.guess_place-guess.ensures.number c.if-is_there.ensures

pub returns-in_err-place : goal.returns-in_err-place
returns-in_err-place c = λ is_index.
    rw c.from_residual.ensures
    (IsKeyOf-no_place c.args.objects.now c.args.index.now is_index c.args.number
    (c.in_err-place.ensures.position is_index.rises))

pub returns-then-is_there-2 : goal.returns-then-is_there-2
returns-then-is_there-2 c = λ is_index.
    IsKeyOf-there c.args.objects.now c.args.index.now is_index c.args.number c.in_ok-place.field-0
    (c.in_ok-place.ensures.position is_index.rises) c.if-is_there-2.ensures

pub returns-else-is_there-2 : goal.returns-else-is_there-2
returns-else-is_there-2 c = λ is_index.
    IsKeyOf-ended c.args.objects.now c.args.index.now is_index c.args.number c.in_ok-place.field-0
    (c.in_ok-place.ensures.position is_index.rises) c.if-is_there-2.ensures
