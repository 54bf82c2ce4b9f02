use Rattle.std.proofs.Common.{◌≡◌, ◌++◌, drop}
use Rattle.ck_foreign.specs.Templates.{items_of}
use Rattle.ck_foreign.proofs.templates.template_of.Given as goal

-- the items so far, and those of what is left
abbrev pub invariant-loop-attribute : goal.invariant-loop-attribute
invariant-loop-attribute l =
    l.items.items ++ items_of (drop l.attribute-index l.attributes) l.rest
    ≡ items_of l.attributes l.values
