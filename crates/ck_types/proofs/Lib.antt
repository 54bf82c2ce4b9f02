pub mod CheckLemmas
pub mod DifferenceLemmas
pub mod MechanismLemmas
