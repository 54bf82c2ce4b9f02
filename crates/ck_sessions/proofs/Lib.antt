pub mod Moves
pub mod Readings
pub mod SearchRows
