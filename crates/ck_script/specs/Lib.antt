pub mod Splits
pub mod Arguments
pub mod CallNames
pub mod Calls
pub mod Lines
pub mod Replies
