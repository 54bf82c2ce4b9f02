pub mod CallerCallLemmas
pub mod DeviceLemmas
pub mod NumberLemmas
