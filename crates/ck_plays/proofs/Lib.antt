pub mod CallerScriptLemmas
pub mod DeviceLemmas
pub mod LineLemmas
pub mod PlayLemmas
pub mod PlayerLemmas
pub mod ReadingLemmas
pub mod ReplyLemmas
pub mod WriteLemmas
