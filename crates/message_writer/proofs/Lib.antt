-- What the writer leaves.
pub mod Left
