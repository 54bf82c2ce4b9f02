-- By what the prover tells histories apart: their base and their entries. No reply is defined by
-- these.
use Rattle.std.specs.Prelude.{◌≡◌, List, refl}
use Rattle.std.proofs.Common.{ap}
use Rattle.std.specs.Coded.{Coded, code_by, coded×, coded_list}
use Rattle.ck_journal.specs.contracts.bases.Base as base
use Rattle.ck_journal.specs.contracts.calls.Entry as entry
use Rattle.ck_journal.specs.declared.bases.Base.{Base}
use Rattle.ck_journal.specs.declared.calls.Entry.{Entry}
use Rattle.ck_journal.specs.Histories.{History, start, ◌◁◌, start_of, entries_of, followed_by}

-- a history is its base followed by its entries
pub followed_by-entries : (h : History) → followed_by (start (start_of h)) (entries_of h) ≡ h
followed_by-entries (start b) = refl
followed_by-entries (e ◁ h) = ap (λ before. e ◁ before) (followed_by-entries h)

abbrev pub history_code : Coded History
history_code =
    code_by (Base × List Entry) (coded× base.the_row.coded (coded_list entry.the_row.coded))
    (λ h. (start_of h, entries_of h)) (λ p. followed_by (start p.0) p.1) followed_by-entries
