-- What the numbers of refusals are.
pub mod Refusals
