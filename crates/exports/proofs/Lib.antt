-- What the proofs of the exports use.
pub mod PathCount
