use Rattle.ck_journal.specs.Histories.{start_of}
use Rattle.ck_callers.specs.Accounts.{name_of}
use Rattle.ck_shared.proofs.sharing.share.Given as goal

-- the history of the token that is shared
abbrev pub ghosts-share_as-K-TokenId : goal.ghosts-share_as-K-TokenId
ghosts-share_as-K-TokenId g a = record { ledger = name_of a.identity.ledgers; callers = a.callers }

abbrev pub ghosts-share_as-K-HistoryId : goal.ghosts-share_as-K-HistoryId
ghosts-share_as-K-HistoryId g a = record {
  book = a.identity.history.seen.book;
  base = start_of (g.T.JournaledToken.state a.token.now).history;
  limits = (g.T.JournaledToken.state a.token.now).limits;
}
