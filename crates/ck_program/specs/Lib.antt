pub mod CallerCalls
pub mod Faults
pub mod Options
pub mod Programs
pub mod ThreadPlays
