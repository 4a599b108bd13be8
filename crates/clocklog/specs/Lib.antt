-- The reader's part: what is recorded, the format and the refusals, and what each call promises.
pub mod Events
pub mod Format
pub mod Promises
-- The laws of a log that is judged fine, and of the numbers of its refusals.
pub mod FormatLaws
pub mod NumberLaws
-- The results: times across the rollover, what is written is read back, and one answer for each input.
pub mod Rollover
pub mod Written
pub mod RoundTrip
pub mod Unique
