pub mod Agreement
pub mod Changes
