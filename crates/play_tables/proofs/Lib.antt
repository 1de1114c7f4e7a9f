-- Laws of the eight tables.
pub mod Sizes
pub mod Parts
pub mod Fresh
pub mod Starts
