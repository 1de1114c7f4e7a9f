-- Laws of lines, of the tables lent, of what is read of an input, and 01's rehearsal.
pub mod Lines
pub mod Tables
pub mod Playing
pub mod Enough
pub mod Longest
pub mod FourLines
