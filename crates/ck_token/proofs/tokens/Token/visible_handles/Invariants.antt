use Rattle.std.proofs.Common.{◌≡◌, ◌++◌, drop}
use Rattle.ck_token.proofs.SearchLemmas.{next}
use Rattle.ck_token.proofs.tokens.Token.visible_handles.Given as goal

-- what has been given, and then what is left gives
abbrev pub invariant-loop-number : goal.invariant-loop-number
invariant-loop-number l =
    next l.self.history l.max l.numbers
    ≡ l.handles.items ++ next l.self.history l.left (drop l.number-index l.numbers)
