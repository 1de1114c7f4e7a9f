-- What an event list holds (01, "Play").
pub mod List
pub mod Value
pub mod Told
