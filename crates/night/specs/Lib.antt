-- The reader's part: when records agree and what is followed, what the call answers, and what it promises.
pub mod Agreement
pub mod Calls
pub mod Promises
-- The check in one pass over the records, and that it is exact.
pub mod Pass
pub mod PassLaws
pub mod StepLaws
pub mod Exact
-- The paths, followed in the same pass.
pub mod Follow
pub mod FollowLaws
-- What the functions ask of each other.
pub mod Conditions
-- The laws of the call.
pub mod CallLaws
-- The results: the break, the paths and the figure; one answer for each input; and what an answer of the call says.
pub mod Results
pub mod Unique
pub mod CallResults
