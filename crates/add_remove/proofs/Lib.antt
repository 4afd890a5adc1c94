-- Laws behind the calls that change a table. Nothing here needs to be believed.
pub mod OneSlot
pub mod Putting
pub mod Adding
pub mod Removing
