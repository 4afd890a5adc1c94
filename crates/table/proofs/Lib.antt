-- Laws about the definitions of specs/. Nothing here needs to be believed: all of it is checked.
pub mod Members
pub mod Entries
pub mod Programs
pub mod Pasting
pub mod Words
pub mod Walks
pub mod Empty
pub mod Owned
pub mod Copies
pub mod LabelArrays
pub mod SlotsInTurn
