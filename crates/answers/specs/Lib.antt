-- The reader's part: answers and refusals, and what the call promises.
pub mod Answers
pub mod Promises
-- The laws.
pub mod AnswerLaws
pub mod NumberLaws
-- The result: one answer for each input.
pub mod Unique
