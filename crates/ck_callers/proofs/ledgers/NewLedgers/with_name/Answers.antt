use Rattle.ck_callers.proofs.NewAccounts.{all_added, same_name}
use Rattle.ck_callers.proofs.ledgers.NewLedgers.with_name.Goals as goal

pub open_ledger-one-requires-clause-name : goal.open_ledger-one-requires-clause-name
open_ledger-one-requires-clause-name g c = same_name c.self.view_is c.requires.names 1

pub open_ledger-two-requires-clause-name : goal.open_ledger-two-requires-clause-name
open_ledger-two-requires-clause-name g c = same_name c.self.view_is c.requires.names 2

pub open_ledger-three-requires-clause-name : goal.open_ledger-three-requires-clause-name
open_ledger-three-requires-clause-name g c = same_name c.self.view_is c.requires.names 3

pub open_ledger-four-requires-clause-name : goal.open_ledger-four-requires-clause-name
open_ledger-four-requires-clause-name g c = same_name c.self.view_is c.requires.names 4

pub open_ledger-five-requires-clause-name : goal.open_ledger-five-requires-clause-name
open_ledger-five-requires-clause-name g c = same_name c.self.view_is c.requires.names 5

pub open_ledger-six-requires-clause-name : goal.open_ledger-six-requires-clause-name
open_ledger-six-requires-clause-name g c = same_name c.self.view_is c.requires.names 6

pub open_ledger-seven-requires-clause-name : goal.open_ledger-seven-requires-clause-name
open_ledger-seven-requires-clause-name g c = same_name c.self.view_is c.requires.names 7

pub open_ledger-eight-requires-clause-name : goal.open_ledger-eight-requires-clause-name
open_ledger-eight-requires-clause-name g c = same_name c.self.view_is c.requires.names 8

pub returns-clause-accounts : goal.returns-clause-accounts
returns-clause-accounts g c =
    all_added c.args.callers c.in_ok-accounts.accounts.items c.add_account.new.accounts.items
    c.add_account-2.new.accounts.items c.add_account-3.new.accounts.items
    c.add_account-4.new.accounts.items
    c.add_account-5.new.accounts.items c.add_account-6.new.accounts.items
    c.add_account-7.new.accounts.items
    c.add_account-8.new.accounts.items c.requires.callers.0 c.requires.callers.1
    c.in_ok-accounts.ensures.items
    c.add_account.ensures.accounts c.add_account-2.ensures.accounts c.add_account-3.ensures.accounts
    c.add_account-4.ensures.accounts c.add_account-5.ensures.accounts
    c.add_account-6.ensures.accounts
    c.add_account-7.ensures.accounts c.add_account-8.ensures.accounts
