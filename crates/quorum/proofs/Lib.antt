-- Facts about counts and quorums, for every number of members, and the three sizes.
pub mod Counts
pub mod Meet
pub mod Cases
