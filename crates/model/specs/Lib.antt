-- The model of 01 and the third demand.
pub mod Model
pub mod Demand
pub mod Joins
pub mod Counts
pub mod Cases
pub mod Sound
