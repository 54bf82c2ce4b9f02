pub mod WordLemmas
pub mod DigitLemmas
pub mod JoinLemmas
pub mod MeaningLemmas
