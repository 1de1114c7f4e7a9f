-- Laws for play.
pub mod Giving
