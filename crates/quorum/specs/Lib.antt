-- Counts over the members 0 to n-1, and quorums.
pub mod Count
pub mod Quorum
