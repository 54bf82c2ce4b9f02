use Rattle.std.proofs.lemmas.Grind.{common_steps}
use Rattle.std.proofs.Common.{◌≡◌, [], sym, ap, ◌∙◌, subst, arith}
use Rattle.std.proofs.lemmas.List.{nil_from_length}
use Rattle.ck_journal.specs.Bases.{IsSound}
use Rattle.ck_journal.specs.Cuts.{base_of}
use Rattle.ck_journal.specs.Histories.{start, JournalState}
use Rattle.ck_journal.specs.Laws.{IsSoundHistory}
use Rattle.ck_journal.specs.Sessions.{open_sessions}
use Rattle.ck_journal.proofs.CutBases.{base-sound}
use Rattle.ck_journal.proofs.CutLaws.{left-by}
use Rattle.ck_token.specs.Agreement.{TokenAgrees}
use Rattle.ck_token.proofs.CutLemmas.{good-history, token-cut}
use Rattle.ck_token.proofs.tokens.Token.cut.Goals.{After-base-base}
use Rattle.ck_token.proofs.tokens.Token.cut.Goals as goal

-- no session is open
none : (c : After-base-base) → open_sessions c.self.inside.journal.history ≡ []
none c =
    let h = c.self.inside.journal.history in
    nil_from_length (open_sessions h)
    (sym (c.count.ensures h c.self.invariant.parts.sessions) ∙ c.if-count-ne0.false)

good : (c : After-base-base) → IsSoundHistory c.self.inside.limits c.self.inside.journal.history
good c = good-history _ _ _ c.self.invariant

-- the new journal's base is that which the history leaves
left : (c : After-base-base) → c.base-base.result ≡ base_of c.self.inside.journal.history
left c =
    let h = c.self.inside.journal.history in
    let agree = c.self.invariant.parts in
    c.base-base.ensures h agree.sessions (c.creations.ensures.creations h agree.objects)
    (c.in_ok-objects.ensures h agree.objects)

pub from_base-journal-requires : goal.from_base-journal-requires
from_base-journal-requires c =
    let p = (goal.at.from_base-journal-requires c).After-base-base in
    subst IsSound (sym (left p)) (base-sound _ _ (good p) (none p))

pub invariant_of-self : goal.invariant_of-self
invariant_of-self c =
    let t = c.self.inside in
    let p = (goal.at.invariant_of-self c).After-base-base in
    let new = ap (λ (j : JournalState). j.history) c.replace.ensures.after
    ∙ c.from_base-journal.ensures ∙ ap start (left p) in
    subst (λ g. TokenAgrees t.limits g t.parts) (sym new)
    (token-cut _ _ (good p) (none p) t.parts c.self.invariant)

pub returns-clause-taken : goal.returns-clause-taken
returns-clause-taken c =
    let p = (goal.at.returns-clause-taken c).After-base-base in
    rw (← c.self.view_is) (good p)

pub returns-clause-sound : goal.returns-clause-sound
returns-clause-sound c =
    let p = (goal.at.returns-clause-sound c).After-base-base in
    rw (← c.self.view_is) (base-sound _ _ (good p) (none p))

pub returns-clause-left : goal.returns-clause-left
returns-clause-left c =
    let p = (goal.at.returns-clause-left c).After-base-base in
    rw (← c.self.view_is) (left-by _ _ (good p) (none p))

pub returns-then-count-ne0-clause-cut : goal.returns-then-count-ne0-clause-cut
returns-then-count-ne0-clause-cut c = grind (arith, common_steps)

pub returns-in_err-objects-clause-cut : goal.returns-in_err-objects-clause-cut
returns-in_err-objects-clause-cut c = grind (arith, common_steps)

pub returns-clause-cut : goal.returns-clause-cut
returns-clause-cut c = grind (arith, common_steps)
