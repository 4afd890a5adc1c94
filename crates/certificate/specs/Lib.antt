-- One slot compared with what it has to keep.
pub mod Compared
