-- Laws on the rows of a table, for the passes over them.
pub mod Rows
pub mod Copying
