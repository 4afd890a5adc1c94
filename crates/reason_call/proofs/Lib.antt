-- Laws behind the call's proof. Nothing here needs to be believed: all of it is checked.
pub mod Reasons
