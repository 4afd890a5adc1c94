-- Laws behind the functions' proofs. Nothing here needs to be believed: all of it is checked.
pub mod Made
pub mod Slots
pub mod Gathering
