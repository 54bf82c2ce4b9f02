use Rattle.std.proofs.Common.{refl}
use Rattle.ck_journal.proofs.FrontLemmas.{front_refl}
use Rattle.ck_callers.proofs.KnownLemmas.{keeps_itself}
use Rattle.ck_callers.proofs.known_histories.KnownHistory.new.Goals as goal

pub invariant_of-result : goal.invariant_of-result
invariant_of-result g c =
    rw (c.duplicate.ensures, c.duplicate-2.ensures, c.requires)
    (refl, front_refl _, keeps_itself g.K.HistoryId.limits _)
