-- What is printed of a file (specification 7.9). A reader of the loading program believes these.
pub mod Loads
