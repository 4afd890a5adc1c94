-- Laws about equality, for the proofs of the functions.
pub mod Equality
