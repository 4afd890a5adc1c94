-- What the loops of the crate keep. Nothing here needs to be believed: all of it is checked.
pub mod Visits
pub mod Rounds
pub mod Top
pub mod Shown
pub mod Sizes
