-- The calls of further lines, and the history after further calls
use Rattle.std.proofs.Common.{◌≡◌, ℕ, List, [], ◌∷◌, ◌++◌, Option, Some, None, refl, sym, ap, ◌∙◌}
use Rattle.std.proofs.Common.{false}
use Rattle.ck_types.specs.TokenLimits.{Ranges}
use Rattle.ck_journal.specs.Bases.{empty_base}
use Rattle.ck_journal.specs.Histories.{History, start}
use Rattle.ck_journal.specs.declared.calls.Call.{Call}
use Rattle.ck_script.specs.Lines.{meaning}
use Rattle.ck_script.specs.declared.lines.Line.{Line}
use Rattle.ck_script.specs.declared.lines.Line.TheVariants as line
use Rattle.ck_journal.specs.TokenStates.{after}
use Rattle.ck_plays.specs.Plays.{calls_in, with_call, called, history_after, AreGood, is_bad}

with_call-append : (m : Option Line) (cs ds : List (ℕ × Call))
    → with_call m (cs ++ ds) ≡ with_call m cs ++ ds
with_call-append (Some (line.Called caller call)) cs ds = refl
with_call-append (Some line.Skipped) cs ds = refl
with_call-append None cs ds = refl

pub calls_in-append : (lines more : List (List ℕ))
    → calls_in (lines ++ more) ≡ calls_in lines ++ calls_in more
calls_in-append [] more = refl
calls_in-append (l ∷ lines) more =
    ap (with_call (meaning l)) (calls_in-append lines more)
    ∙ with_call-append (meaning l) (calls_in lines) (calls_in more)

after-append : (limits : Ranges) (h : History) (cs ds : List (ℕ × Call))
    → after limits h (cs ++ ds) ≡ after limits (after limits h cs) ds
after-append limits h [] ds = refl
after-append limits h (c ∷ cs) ds = after-append limits (called limits h c.0 c.1) cs ds

-- the history after one more line
pub history_after-line : (limits : Ranges) (lines : List (List ℕ)) (l : List ℕ) (m : Option Line)
    → m ≡ meaning l
    → history_after limits (lines ++ l ∷ [])
    ≡ after limits (history_after limits lines) (with_call m [])
history_after-line limits lines l m is =
    ap (after limits (start empty_base)) (calls_in-append lines (l ∷ []))
    ∙ after-append limits (start empty_base) (calls_in lines) (with_call (meaning l) [])
    ∙ ap (λ n. after limits (history_after limits lines) (with_call n [])) (sym is)

-- one more good line
pub AreGood-line : (lines : List (List ℕ)) (l : List ℕ) → AreGood lines → is_bad (meaning l) ≡ false
    → AreGood (lines ++ l ∷ [])
AreGood-line [] l good this = (this, tt)
AreGood-line (k ∷ lines) l good this = (good.0, AreGood-line lines l good.1 this)
