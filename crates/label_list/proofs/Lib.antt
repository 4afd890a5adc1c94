-- Laws behind the proofs. Nothing here needs to be believed.
pub mod Writing
pub mod Determined
