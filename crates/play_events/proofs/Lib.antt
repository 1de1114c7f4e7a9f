-- Theorems about event lists.
pub mod Sizes
pub mod Events
