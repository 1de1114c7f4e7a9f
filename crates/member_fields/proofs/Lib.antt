-- What is proved of the numbers of a record.
pub mod Bits
pub mod Kept
