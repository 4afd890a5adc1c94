-- What the functions of this crate promise one another and `file_saving`.
pub mod Held
pub mod Bytes
