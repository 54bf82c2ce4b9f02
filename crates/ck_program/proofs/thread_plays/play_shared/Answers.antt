use Rattle.std.proofs.Common.{◌≡◌, ℕ, ◌≤◌, true, false, sym, ap, ◌∙◌, subst}
use Rattle.std.specs.Prelude.{All, vec_items}
use Rattle.ck_callers.specs.Accounts.{new_accounts}
use Rattle.ck_callers.specs.Callers.{new_callers}
use Rattle.ck_program.specs.CallerCalls.{caller_numbers, IsNewCaller}
use Rattle.ck_program.proofs.CallerCallLemmas.{none_made, of_each, was_new}
use Rattle.ck_program.proofs.NumberLemmas.{all_back}
use Rattle.ck_program.proofs.thread_plays.play_shared.Goals as goal

pub play_scripts-requires-after_bounds : goal.play_scripts-requires-after_bounds
play_scripts-requires-after_bounds g c κs within =
    subst (All IsNewCaller)
    (sym (c.in_ok-token.ensures ∙ ap (λ base. new_callers base c.args.callers) c.requires.base))
    (none_made (new_accounts c.args.callers))

-- the callers that come back have the numbers of those that the token was opened with
pub unreachable-requires : goal.unreachable-requires
unreachable-requires g c =
    let all = all_back g.K.HistoryId.base g.K.TokenId.callers (vec_items c.in_ok-callers.callers)
    (c.in_ok-callers.ensures.numbers
    ∙ ap caller_numbers
    (c.in_ok-token.ensures ∙ ap (new_callers g.K.HistoryId.base) c.requires.callers.2))
    in
    let no : true ≡ false = sym all ∙ c.in-Err.ensures.missing in cc no

pub returns-clause-new : goal.returns-clause-new
returns-clause-new g c =
    was_new c.args.calls.now (g.T.JournaledToken.state c.in-Ok.token).history g.K.TokenId.callers
    (vec_items c.in_ok-callers.callers)
    (subst (λ (n : ℕ). 1 ≤ n) c.requires.callers.2 c.requires.callers.0) c.in-Ok.ensures.all
    c.in-Ok.ensures.settled
    c.in_ok-callers.ensures.made

pub returns-clause-all : goal.returns-clause-all
returns-clause-all g c number low high =
    of_each c.args.calls.now (g.T.JournaledToken.state c.in-Ok.token).history g.K.TokenId.callers
    (vec_items c.in_ok-callers.callers)
    c.in-Ok.ensures.all c.in-Ok.ensures.settled c.in_ok-callers.ensures.made number low
    (subst (λ (n : ℕ). number ≤ n) c.requires.callers.2 high)
