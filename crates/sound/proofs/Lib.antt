-- What the passes test is what soundness asks. Nothing here needs to be believed: all of it is checked.
pub mod Soundness
