use Rattle.ck_journal.specs.Bases.{empty_base}
use Rattle.ck_callers.specs.Accounts.{name_of}
use Rattle.ck_program.proofs.thread_plays.play_calls.Given as goal

-- the token that is made
abbrev pub ghosts-play_shared-K-TokenId : goal.ghosts-play_shared-K-TokenId
ghosts-play_shared-K-TokenId g a =
    record { ledger = name_of a.identity.ledgers; callers = a.callers }

abbrev pub ghosts-play_shared-K-HistoryId : goal.ghosts-play_shared-K-HistoryId
ghosts-play_shared-K-HistoryId g a = record {
  book = a.identity.history.seen.book;
  base = empty_base;
  limits = a.limits;
}
