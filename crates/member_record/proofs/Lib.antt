-- Laws of the member record.
pub mod Flags
pub mod Quorums
pub mod Lasting
pub mod Sound
