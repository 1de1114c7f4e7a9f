-- A member record as numbers.
pub mod Fields
