-- The laws that the functions' proofs cite.
pub mod Buffers
pub mod Decimals
pub mod Wrote
pub mod Examples
