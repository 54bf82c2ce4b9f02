use Rattle.std.proofs.Common.{◌≡◌, true, false, sym, ◌∙◌}
use Rattle.ck_callers.proofs.KnownLemmas.{longer_front}
use Rattle.ck_callers.proofs.known_histories.KnownHistory.covers.Goals as goal

pub returns-then-is_front_of : goal.returns-then-is_front_of
returns-then-is_front_of g c = rw (← c.self.view_is, ← c.other.view_is) (
  λ t. (
    c.is_front_of.ensures.front c.if-is_front_of.true,
    c.is_front_of-then-is_front_of.ensures.front t,
  ),
  λ covers. c.is_front_of-then-is_front_of.ensures.shorter.1
      (longer_front c.other.inside.front c.self.inside.front covers.1),
)

pub returns-else-is_front_of : goal.returns-else-is_front_of
returns-else-is_front_of g c = rw (← c.self.view_is, ← c.other.view_is) (
  λ t. let no : true ≡ false = sym t ∙ c.if-is_front_of.false in cc no,
  λ covers. c.is_front_of.ensures.shorter.1
      (longer_front c.self.inside.changed c.other.inside.front covers.0),
)
