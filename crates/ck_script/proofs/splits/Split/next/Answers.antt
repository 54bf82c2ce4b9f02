use Rattle.std.proofs.Common.{sym, ◌∙◌}
use Rattle.ck_script.proofs.WordLemmas.{words_left-some, words_left-none}
use Rattle.ck_script.proofs.splits.Split.next.Goals as goal

pub returns-in-Some : goal.returns-in-Some
returns-in-Some c =
    let inside = c.self.inside in
    sym c.self.view_is
    ∙ words_left-some inside.separator inside.is_done inside.rest.now c.in-Some.end c.if-self.false
    c.in-Some.ensures

pub returns-in-None : goal.returns-in-None
returns-in-None c =
    let inside = c.self.inside in
    sym c.self.view_is
    ∙ words_left-none inside.separator inside.is_done inside.rest.now c.if-self.false
    c.in-None.ensures
