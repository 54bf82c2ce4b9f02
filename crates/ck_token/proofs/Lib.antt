pub mod ComputedLemmas
pub mod CutLemmas
pub mod DecisionLemmas
pub mod Entering
pub mod QueryLemmas
pub mod RunLemmas
pub mod SearchLemmas
