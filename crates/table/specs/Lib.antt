-- What the table's bytes stand for (specification 1.10), in the words of the theory. A reader of any contract believes
-- these.
pub mod Sets
pub mod Rules
pub mod Words
pub mod Labels
pub mod Arrays
pub mod Turns
pub mod Questions
pub mod Clean
pub mod Sound
