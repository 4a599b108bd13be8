-- The reader's part: the text of a sheet, what the words of a text say, and what each call promises.
pub mod Shown
pub mod Words
pub mod Grammar
pub mod Run
pub mod FaultText
pub mod Calls
pub mod Promises
-- What the functions do for each other, and the laws.
pub mod Conditions
pub mod NumeralLaws
pub mod ShownLaws
pub mod WordLaws
pub mod RunLaws
pub mod RunWords
pub mod SaysLaws
pub mod LineLaws
pub mod ChainLaws
pub mod SizeLaws
pub mod ReadBack
-- The results: the round trip, long texts, and one answer for each input.
pub mod RoundTrip
pub mod LongTexts
pub mod Unique
