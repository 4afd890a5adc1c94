-- Laws behind the functions' proofs. Nothing here needs to be believed: all of it is checked.
pub mod Sorting
pub mod Making
pub mod Slots
