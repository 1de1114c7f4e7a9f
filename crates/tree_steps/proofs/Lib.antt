-- Laws for what the tree's calls ask, decide and write.
pub mod Planning
pub mod Inserting
pub mod Climbing
