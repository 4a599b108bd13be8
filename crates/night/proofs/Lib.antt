-- The pass's state as the code holds it.
pub mod Laws
-- The places of the chain.
pub mod Places
-- The loop over the records, with the readings.
pub mod Records
-- From what is found to what is answered.
pub mod Findings
pub mod Promised
