-- What the functions of this crate promise one another, `add_remove` and `replacing`.
pub mod Parts
