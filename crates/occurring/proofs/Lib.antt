-- Laws of the marks. Nothing here needs to be believed: all of it is checked.
pub mod Marks
