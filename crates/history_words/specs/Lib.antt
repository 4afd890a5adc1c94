-- Lists of calls as numbers: what is read, and what is written. Reading is private.
pub mod Encoding
pub mod Reading
