-- What questions 1 to 4 are answered, in the words of the theory; sums of entries.
pub mod Asked
pub mod Sums
