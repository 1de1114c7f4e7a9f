-- The rows of a node table.
pub mod Rows
