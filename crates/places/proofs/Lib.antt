-- The laws that the functions' proofs cite.
pub mod Leading
pub mod Places
