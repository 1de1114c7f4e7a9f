-- The meanings of document 01, "The tree", and of 02, tickets 1, 3 and 5, from their words; and the code's test of a table (Check).
pub mod Machine
pub mod Properties
pub mod Table
pub mod Ghosts
pub mod Preview
pub mod Rebuilt
pub mod Check
