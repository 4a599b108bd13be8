-- The reader's part: what the calls answer, and what each promises.
pub mod Calls
pub mod Promises
-- The laws of the calls: their refusals, and their answers case by case.
pub mod NumberLaws
pub mod SuiteLaws
pub mod CallLaws
-- What the functions under the calls require and ensure, and laws of it.
pub mod Conditions
pub mod Most
pub mod Paths
pub mod GreatestLaws
pub mod MarginLaws
pub mod Largest
pub mod PathLaws
pub mod FollowLaws
pub mod ReleaseLaws
pub mod RowLaws
pub mod FigureLaws
-- The results: what an answer says of every schedule, and one answer for each input.
pub mod Results
pub mod QuickResults
pub mod Converted
pub mod Unique
