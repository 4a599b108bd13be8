-- What a reader must believe: what a schedule is, what is read from the full-budget one, a chain's figures and paths, and the readings carried.
pub mod Model
-- What the laws in proofs/Analysis speak of besides.
pub mod Analysis
-- What the results in proofs/Results speak of besides, and document 01's sheets.
pub mod Results
