-- The reader's part: the format, what the calls answer, and what each call promises.
pub mod Fields
pub mod Calls
pub mod Conversions
pub mod Tasks
pub mod Lateness
pub mod Promises
-- What a sheet that is judged fine is known to be.
pub mod Sound
-- The laws of the fields and of the calls.
pub mod Order
pub mod FieldLaws
pub mod EachLaws
pub mod PlaceLaws
pub mod InOrderLaws
pub mod NumberLaws
pub mod FormatLaws
pub mod TailLaws
pub mod SameLaws
pub mod StepLaws
pub mod SoundLaws
pub mod SizeLaws
pub mod EncodedLaws
pub mod TaskLaws
pub mod LatenessLaws
-- The results: round trips, there and back, long inputs, what the bit offset of a refusal is, and one answer for each input.
pub mod RoundTrip
pub mod ThereAndBack
pub mod LongInputs
pub mod Offsets
pub mod Unique
