-- What play promises (01, "Play").
pub mod Promise
