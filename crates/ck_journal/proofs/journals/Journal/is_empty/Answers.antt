use Rattle.std.proofs.Common.{ap, sym, ◌∙◌}
use Rattle.std.proofs.lemmas.Bool.{eqb-true, eq-eqb}
use Rattle.ck_journal.specs.Histories.{entry_count}
use Rattle.ck_journal.proofs.EntryLemmas.{no_entries}
use Rattle.ck_journal.proofs.journals.Journal.is_empty.Goals as goal

pub returns : goal.returns
returns c =
    let h = c.args.self.now.history in
    let len = c.len.result in (
      (λ none. no_entries h (sym c.len.ensures ∙ eqb-true len 0 none)),
      (λ start. eq-eqb len 0 (c.len.ensures ∙ ap entry_count start)),
    )
