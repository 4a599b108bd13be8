-- The laws of the schedule.
pub mod Work
pub mod Level
pub mod Backlog
pub mod Finish
pub mod GreatestLaws
pub mod Clearing
pub mod Hyperperiod
-- The laws of the chain.
pub mod WalkLaws
pub mod Largest
pub mod WalkPaths
pub mod Paths
-- The laws of the recurrence.
pub mod RecurrenceLaws
-- The laws of tasks that are ranked below others.
pub mod LowerLaws
-- Figures of given sheets by evaluation.
pub mod Evaluation
