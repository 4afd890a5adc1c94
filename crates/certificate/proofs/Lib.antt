-- Laws of one slot compared, of the walk over the slots, and of the depths that they keep. Nothing here needs to be
-- believed: all of it is checked.
pub mod Comparing
pub mod Walk
