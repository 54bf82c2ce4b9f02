pub use Rattle.ck_journal.specs.Answers
pub use Rattle.ck_journal.specs.Histories
pub mod Replies
pub mod Verdicts
