-- Laws about the format. Nothing here needs to be believed.
pub mod Words
pub mod Remainders
pub mod Bytes
pub mod Reading
pub mod Written
pub mod Sequences
pub mod Pages
pub mod Records
pub mod RoundTrips
pub mod Damage
