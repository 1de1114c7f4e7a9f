-- What the member calls come to, and what their results say.
pub mod Reports
pub mod Calls
