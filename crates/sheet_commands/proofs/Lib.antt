-- The laws that the functions' proofs cite.
pub mod Reasons
pub mod Still
