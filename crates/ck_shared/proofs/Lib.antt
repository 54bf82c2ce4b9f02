pub mod CallerNumbers
pub mod OutputLemmas
pub mod Settling
pub mod Shown
pub mod Starting
