-- The laws that the functions' proofs cite.
pub mod Tokens
pub mod Numerals
