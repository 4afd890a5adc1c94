-- Laws behind the calls' proofs. Nothing here needs to be believed.
pub mod Told
pub mod Ends
pub mod Determined
