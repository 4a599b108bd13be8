-- Over numbers and functions: work that comes in, and the releases that bring it.
pub mod Draining
pub mod Releases
-- Over a sheet's tasks: their list, their levels, what their rows tell, and the table.
pub mod Tasks
pub mod Gathered
pub mod Backlogs
pub mod Notes
pub mod Entries
pub mod Endings
pub mod Promised
