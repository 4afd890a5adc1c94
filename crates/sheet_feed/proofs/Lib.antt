-- The laws that the functions' proofs cite, and what follows for a whole sheet.
pub mod Feeding
pub mod Whole
pub mod Start
