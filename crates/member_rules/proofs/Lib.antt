-- Laws of the refusals.
pub mod Late
