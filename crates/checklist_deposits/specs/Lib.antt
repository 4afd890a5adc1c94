-- Request #106 over a list of calls (specification 9.7): what a reader believes when told that `deposit` holds.
pub mod Standing
pub mod Deposits
