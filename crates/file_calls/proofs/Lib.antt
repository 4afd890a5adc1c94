-- Laws behind saving and loading, and what is shown of both. Nothing here needs to be believed.
pub mod Tables
pub mod Recorded
pub mod Asked
pub mod Saved
pub mod Built
pub mod Shown
