use Rattle.std.proofs.Common.{◌≡◌, drop}
use Rattle.ck_types.specs.Checks.{check_of, first_error}
use Rattle.ck_objects.specs.Templates.{form_error}
use Rattle.ck_objects.proofs.items.check_forms.Given as goal

-- what is left decides
abbrev pub invariant-loop-item : goal.invariant-loop-item
invariant-loop-item l =
    check_of (first_error form_error l.items)
    ≡ check_of (first_error form_error (drop l.item-index l.items))
