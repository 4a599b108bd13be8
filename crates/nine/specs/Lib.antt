pub mod Outcome
pub mod Nine
