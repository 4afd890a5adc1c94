-- What the functions of the crate tell each other.
pub mod Assembling
