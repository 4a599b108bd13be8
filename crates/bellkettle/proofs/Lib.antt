pub mod Made
pub mod Promised
