-- The laws of the schedule.
pub mod Work
pub mod Level
pub mod Backlog
pub mod Finish
pub mod GreatestLaws
pub mod Existence
pub mod ResponseLaws
pub mod Clearing
pub mod Hyperperiod
pub mod Repetition
pub mod Idle
pub mod NeverLater
-- The laws of the chain.
pub mod WalkLaws
pub mod Largest
pub mod ChainLaws
pub mod WalkPaths
pub mod Paths
-- The laws of the readings that it carries.
pub mod ReadingLaws
-- The laws of a flag.
pub mod FlagLaws
-- The laws of the recurrence.
pub mod RecurrenceLaws
pub mod QuickLaws
-- The laws of tasks that are ranked below others.
pub mod LowerLaws
-- Figures of given sheets by evaluation.
pub mod Evaluation
