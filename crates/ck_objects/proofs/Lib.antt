pub mod ChangeLemmas
pub mod ConflictLemmas
pub mod FlagLemmas
pub mod GivenLemmas
pub mod KeyLemmas
pub mod SetLemmas
pub mod ValueLemmas
