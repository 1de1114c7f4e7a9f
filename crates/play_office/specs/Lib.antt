-- How records by value, the store and the tables represent the model.
pub mod Represents
