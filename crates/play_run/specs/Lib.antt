-- What the events of a list come to (01, "Play").
pub mod Answer
pub mod Lent
pub mod Ran
