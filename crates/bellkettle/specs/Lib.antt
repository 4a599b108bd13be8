-- The reader's part: answers as numbers, sheets and their fields, and what the calls promise.
pub mod Numbers
pub mod Fields
pub mod Promises
-- The laws.
pub mod ReplyLaws
pub mod FieldLaws
pub mod SizeLaws
-- The results: 0 exactly when the answer is given, and one returned number and one content of lent memory for each input.
pub mod Results
pub mod Unique
