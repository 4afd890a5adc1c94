-- What a slot has to keep, and which atoms got their depths.
pub mod Due
