-- Theorems about the message store.
pub mod Parts
pub mod Stored
