-- Laws about the definitions of specs/, and what the rounds keep. Nothing here needs to be believed: all is checked.
pub mod Walks
pub mod Numbers
pub mod Rounds
pub mod Answer
pub mod Arrays
