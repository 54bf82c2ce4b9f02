use Rattle.std.proofs.Common.{sym, ap, ◌∙◌}
use Rattle.std.specs.Prelude.{reverse}
use Rattle.ck_journal.specs.Fronts.{history_of}
use Rattle.ck_journal.specs.Histories.{start}
use Rattle.ck_journal.proofs.EntryLemmas.{start_of-followed_by}
use Rattle.ck_journal.proofs.FrontLemmas.{extended_by-reverse}
use Rattle.ck_journal.proofs.journals.Journal.iter.Goals as goal

pub returns : goal.returns
returns c =
    let base = c.self.inside.base in
    let items = c.self.inside.entries.items in
    rw (← c.self.view_is, c.iter.ensures)
    (sym (ap (λ b. history_of b items) (start_of-followed_by base (reverse items))
    ∙ extended_by-reverse (start base) items))
