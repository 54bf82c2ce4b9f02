use Rattle.ck_callers.proofs.counts.+covers_all.Given as goal

abbrev pub decreases-covers_all : goal.decreases-covers_all
decreases-covers_all g l = l.most
