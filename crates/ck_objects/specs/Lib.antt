pub mod Attributes
pub mod Fields
pub mod KeyStates
pub mod Records
pub mod Structs
pub mod Templates
