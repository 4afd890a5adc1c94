-- What the probes' answers show. Nothing here needs to be believed: all of it is checked.
pub mod Shown
pub mod Determined
