-- Laws for the table check.
pub mod Fits
pub mod Zeros
