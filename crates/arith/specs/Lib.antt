-- The reader's part: whole numbers, a number that may be over a limit, walks over a range of numbers, and what each call answers.
pub mod Whole
pub mod Limit
pub mod Ranges
pub mod Promises
-- The laws.
pub mod WholeLaws
pub mod RangeLaws
-- The results, and examples.
pub mod Unique
pub mod Examples
