-- A message as numbers.
pub mod Fields
