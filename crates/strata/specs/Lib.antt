-- What the answer says of the table's rules, and the words of the contracts of the functions behind it.
pub mod Answer
pub mod Needed
