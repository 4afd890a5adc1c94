-- Words are read as the calls that they were written of.
pub mod Reading
pub mod Written
