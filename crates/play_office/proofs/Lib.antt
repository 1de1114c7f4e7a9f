-- What holds before a step of an event, and what becomes of it.
pub mod Before
pub mod Settling
pub mod Arms
pub mod Working
