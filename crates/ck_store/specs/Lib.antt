pub use Rattle.ck_journal.specs.Histories
pub use Rattle.ck_journal.specs.Objects
pub use Rattle.ck_objects.specs.Records
pub mod Agreement
pub mod Index
pub mod Labels
pub mod Rows
