-- Laws of the rounds over the slots. Nothing here needs to be believed: all of it is checked.
pub mod Slots
pub mod Lowering
pub mod Greatest
pub mod Relaxing
