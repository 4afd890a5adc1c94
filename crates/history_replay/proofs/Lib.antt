-- The calls of a list made one after another.
pub mod Stepping
pub mod Replaying
