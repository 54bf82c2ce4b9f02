-- what the contracts of a program that shares a token speak of
pub use Rattle.ck_callers.specs.Accounts
pub mod Locked
pub mod Outputs
