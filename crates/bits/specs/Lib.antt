-- The reader's part: what bits, numbers and bytes have to do with each other, and what each call answers.
pub mod Bits
pub mod Promises
-- The laws.
pub mod Lists
pub mod Laws
pub mod Bytes
pub mod SurplusLaws
-- The results.
pub mod Unique
