pub mod Moves
pub mod RowLemmas
