use Rattle.std.proofs.Common.{◌≡◌, ◌+◌, ◌++◌, ◌≤◌, length, map}
use Rattle.std.specs.Prelude.{vec_items, vec_len, vec_capacity}
use Rattle.std.specs.Vec.Iter.{into_iter_items}
use Rattle.ck_callers.specs.Accounts.{AreNew}
use Rattle.ck_callers.specs.Callers.{new_caller}
use Rattle.ck_callers.proofs.openings.callers_of.Given as goal

-- the callers that were made, and then those of the accounts that are left, for which there is room
abbrev pub invariant-loop-account : goal.invariant-loop-account
invariant-loop-account g l =
    (goal.iterator-loop-account g).can_next l.account-iterator
    × (goal.iterator-loop-account g).is_finite
    l.account-iterator
    × AreNew (into_iter_items l.account-iterator)
    × (vec_items l.callers ++ map (new_caller g.K.HistoryId.base)
    (into_iter_items l.account-iterator)
    ≡ map (new_caller g.K.HistoryId.base) (vec_items l.fn.accounts))
    × (vec_len l.callers + length (into_iter_items l.account-iterator) ≤ vec_capacity l.callers)
