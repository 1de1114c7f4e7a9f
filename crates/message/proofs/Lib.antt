-- Theorems about messages.
pub mod Checks
pub mod RoundTrip
pub mod Slots
