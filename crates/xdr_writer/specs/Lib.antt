-- What the writer's functions leave.
pub mod Put
