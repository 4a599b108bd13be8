pub mod Schedule
pub mod Greatest
pub mod Simulate
pub mod Responses
pub mod Chain
pub mod Readings
pub mod Flag
pub mod Recurrence
