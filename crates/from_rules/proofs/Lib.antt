-- Laws behind the functions' proofs. Nothing here needs to be believed: all of it is checked.
pub mod Making
pub mod Kept
pub mod Numbers
pub mod Tables
