use Rattle.std.proofs.Common.{ℕ, Bool, List, sym, ap, ◌∙◌, option_map}
use Rattle.std.specs.List.{find}
use Rattle.ck_types.specs.Numbers.{same_bytes}
use Rattle.ck_script.specs.declared.call_names.CallName.{CallName}
use Rattle.ck_script.specs.declared.call_names.Function.{Function}
use Rattle.ck_journal.proofs.Selections.{find-map}
use Rattle.ck_script.proofs.call_names.CallName.of.Goals as goal

pub returns : goal.returns
returns c =
    let is_named : Function × List ℕ → Bool = λ row. same_bytes row.1 c.args.text.now in
    ap (option_map _) c.name_among.ensures
    ∙ sym (find-map is_named (λ (n : CallName). (n.0, n.1.now)) c.all.result)
    ∙ ap (find is_named) c.all.ensures
