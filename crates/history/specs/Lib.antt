-- The claim over sequences (specification 5.5): what a reader believes when told that it holds.
pub mod Calls
pub mod Claim
