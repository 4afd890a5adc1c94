-- Laws of what crosses.
pub mod Crosses
