-- The reader's part: what the call answers, and what it promises.
pub mod Calls
pub mod Promises
-- What the functions under it promise each other, and the laws of that.
pub mod Conditions
pub mod ClaimLaws
pub mod BoundLaws
pub mod CallLaws
pub mod NumberLaws
-- The results: when each answer is given, what it says of every schedule, and one answer for each input.
pub mod Results
pub mod Unique
