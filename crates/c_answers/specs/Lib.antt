-- The calls' answers as numbers.
pub mod Numbers
