-- The laws that the functions' proofs cite.
pub mod Judging
pub mod Reading
pub mod Scanning
