pub mod Agreement
pub mod Moves
pub mod Rows
