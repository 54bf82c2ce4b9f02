pub use Rattle.ck_journal.specs.Histories
pub use Rattle.ck_journal.specs.Pins
pub use Rattle.ck_journal.specs.Sessions
pub use Rattle.ck_types.specs.Users
pub mod Agreement
pub mod Rows
pub mod SearchCalls
