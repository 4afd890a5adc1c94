-- What `replay` is claimed to do; Steps is private.
pub mod Replays
pub mod Steps
