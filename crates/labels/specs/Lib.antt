-- What relabelling promises (Labelling), and what the functions of the crate tell each other (Keeping).
pub mod Labelling
pub mod Keeping
