-- Laws for the walk over the events.
pub mod Held
pub mod Running
