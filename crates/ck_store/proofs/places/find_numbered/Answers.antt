use Rattle.std.proofs.Common.{◌∙◌, ap}
use Rattle.std.specs.Option.{option_copied}
use Rattle.ck_store.proofs.PlaceLemmas.{find-key}
use Rattle.ck_store.proofs.places.find_numbered.Goals as goal

pub returns-in_err-key_of : goal.returns-in_err-key_of
returns-in_err-key_of c = λ is_index.
    ap option_copied c.from_residual.ensures
    ∙ find-key c.args.objects.now c.args.index.now is_index c.args.number _
    (c.in_err-key_of.ensures is_index)

pub returns : goal.returns
returns c = λ is_index.
    c.get.ensures
    ∙ find-key c.args.objects.now c.args.index.now is_index c.args.number _
    (c.in_ok-key_of.ensures is_index)
