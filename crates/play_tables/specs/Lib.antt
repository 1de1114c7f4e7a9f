-- The eight tables of play in one slice (02, ticket 6).
pub mod Tables
