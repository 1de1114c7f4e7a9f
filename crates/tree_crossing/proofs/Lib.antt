-- Laws for the passes over the rows that an edge crosses.
pub mod Striking
pub mod Looking
