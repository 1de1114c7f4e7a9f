-- The meanings of the member record.
pub mod Phases
pub mod Record
