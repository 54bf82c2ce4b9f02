-- Which bodies of replies have items, for clauses about memory; no answer is defined by this
use Rattle.std.specs.Prelude.{Bool, false, not}
use Rattle.ck_journal.specs.Lists.{is_empty}
use Rattle.ck_journal.specs.declared.replies.Body.{Body}
use Rattle.ck_journal.specs.declared.replies.Body.TheVariants as body

-- the body has a list of one item or more, of which a copy takes memory
abbrev pub has_items : Body → Bool
has_items (body.Mechanisms types) = not (is_empty types)
has_items (body.Attributes answers) = not (is_empty answers)
has_items (body.Handles handles) = not (is_empty handles)
has_items (body.Bytes bytes) = not (is_empty bytes)
has_items other = false
