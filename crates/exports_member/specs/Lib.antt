-- What the functions of one member take and answer.
pub mod Members
