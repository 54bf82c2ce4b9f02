pub mod KeyLemmas
pub mod LengthLemmas
