-- Laws behind the search for two equal rules. Nothing here needs to be believed: all of it is checked.
pub mod Links
