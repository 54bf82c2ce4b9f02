-- what the contracts of a program that uses a token speak of
pub use Rattle.ck_journal.specs.Answers
pub use Rattle.ck_journal.specs.Histories
pub use Rattle.ck_journal.specs.Objects
pub use Rattle.ck_journal.specs.Pins
pub use Rattle.ck_journal.specs.Queries
pub use Rattle.ck_journal.specs.Sessions
pub use Rattle.ck_journal.specs.TokenStates
pub mod Agreement
pub mod Cuts
pub mod Decisions
pub mod QueryCodes
pub mod Runs
pub mod TryCalls
