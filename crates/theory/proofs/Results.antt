pub mod Examples
pub mod Quartet
pub mod Overtaken
pub mod Demand3
pub mod Flags
pub mod QuickBound
pub mod QuickExamples
pub mod LowerRanks
