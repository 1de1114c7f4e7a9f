-- What the rows say of an edge.
pub mod Looked
