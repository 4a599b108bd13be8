-- The reader's part: what the calls answer and leave, what each promises, and what that leaves for a layer above.
pub mod Calls
pub mod Promises
pub mod Taken
-- The laws of the calls: their refusals, their answers case by case, and the rows of the table.
pub mod NumberLaws
pub mod Lateness
pub mod CallLaws
pub mod RowLaws
-- The results: when each answer is given, the ticks that add up, and one answer for each input.
pub mod Results
pub mod Unique
-- What the functions under the calls require and ensure.
pub mod Tasks
pub mod Conditions
