-- The reader's part: what a call answers and leaves, what it promises, and what a run of calls is.
pub mod Calls
pub mod Promises
pub mod Runs
pub mod Watched
-- The laws.
pub mod CallLaws
-- The results: one end for each input, what a run of calls comes to, and what that says of the sheet.
pub mod Unique
pub mod RunResults
pub mod WatchedResults
pub mod Examples
