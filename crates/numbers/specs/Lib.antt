-- The numbers of 01 and 02.
pub mod Numbers
