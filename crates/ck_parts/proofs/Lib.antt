pub mod Counts
pub mod Inversions
pub mod OperationMoves
pub mod PartMoves
