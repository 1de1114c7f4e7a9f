-- The meanings of the member steps.
pub mod Table
pub mod Answers
pub mod ByRow
pub mod Kept
pub mod Repeated
