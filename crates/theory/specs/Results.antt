pub mod Examples
pub mod Overtaken
pub mod Demand3
pub mod QuickExamples
pub mod LowerRanks
