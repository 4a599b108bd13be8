-- The laws of the schedule and of the chain.
pub mod Analysis
-- The results, and document 01's sheets.
pub mod Results
