-- The ranges of rounds, members and slots.
pub mod Ranges
