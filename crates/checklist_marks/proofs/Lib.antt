-- How the calls on a file end, from what add, remove and label answered.
pub mod Ends
