-- What the two readers share.
pub mod Told
