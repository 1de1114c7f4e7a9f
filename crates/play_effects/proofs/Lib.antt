-- Laws of the effects.
pub mod Room
