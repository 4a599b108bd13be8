-- The reader's part: when two sheets differ only below chain one, what the call answers, and what it promises.
pub mod Below
pub mod Calls
pub mod Promises
-- What the functions under it promise each other, and the laws of the answer.
pub mod Conditions
pub mod CallLaws
pub mod ApartLaws
-- The results: when the answer is that it applies, that then the figures of both sheets are the same, and one answer for each input.
pub mod Results
pub mod Unique
