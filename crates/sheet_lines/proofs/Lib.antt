-- The laws that the functions' proofs cite.
pub mod Commands
pub mod Entries
pub mod Answers
pub mod Examples
pub mod RoundTrips
pub mod Bounds
pub mod Cut
