use Rattle.ck_token.specs.Histories.{start_of}
use Rattle.ck_shared.specs.Accounts.{name_of}
use Rattle.ck_races.proofs.shared_work.share_once.Given as goal

-- the token that is given
abbrev pub ghosts-share_as-K-TokenId : goal.ghosts-share_as-K-TokenId
ghosts-share_as-K-TokenId g a = record {
  ledger = name_of a.identity.ledgers;
  callers = a.callers;
}

abbrev pub ghosts-share_as-K-HistoryId : goal.ghosts-share_as-K-HistoryId
ghosts-share_as-K-HistoryId g a = record {
  book = a.identity.history.seen.book;
  base = start_of a.token.history;
  limits = a.token.limits;
}
