pub mod Computations
pub mod Digests
pub mod Macs
pub mod Padding
pub mod RunningTags
