use Rattle.std.proofs.Common.{◌∙◌, sym}
use Rattle.ck_store.proofs.LabelLemmas.{refused-none}
use Rattle.ck_store.proofs.places.match_at.Goals as goal

pub returns-then-has_other_label : goal.returns-then-has_other_label
returns-then-has_other_label c = λ marked is_wanted.
    refused-none c.args.objects.now c.args.marks.now c.args.place c.args.view
    c.args.template.now.items c.args.wanted marked is_wanted
    (sym c.has_other_label.ensures ∙ c.if-has_other_label.true)
