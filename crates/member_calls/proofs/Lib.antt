-- Laws of the member calls.
pub mod Calls
