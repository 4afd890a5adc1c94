-- The laws that the functions' proofs cite, and (Books) what follows from the contracts: what is saved and shown, by
-- the plain book.
pub mod Counting
pub mod Books
