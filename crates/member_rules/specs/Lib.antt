-- The cells of the member table.
pub mod Causes
pub mod Changes
