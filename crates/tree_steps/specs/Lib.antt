-- What add, commit and path ask of a table, decide and write.
pub mod Planned
pub mod Climbed
