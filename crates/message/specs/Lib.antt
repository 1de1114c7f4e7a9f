-- The meanings of 01, "Messages".
pub mod Fields
pub mod Layout
pub mod Kinds
pub mod Answers
pub mod Reading
pub mod Writing
pub mod RoundTrip
pub mod Slots
