-- The judgement field by field, and the loop over the records.
pub mod Judging
pub mod Promised
