pub mod Bodies
pub mod Calls
pub mod Copies
pub mod Lives
pub mod MessageCalls
pub mod Outcomes
pub mod Queries
pub mod Templates
