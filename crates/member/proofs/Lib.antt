-- Laws of the member steps.
pub mod ByRow
pub mod Checks
pub mod Keeping
pub mod Repeated
