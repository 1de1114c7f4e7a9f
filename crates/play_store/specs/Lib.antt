-- What the message store holds (01, "Play").
pub mod Rows
