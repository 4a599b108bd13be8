pub mod Computed
pub mod Nine
