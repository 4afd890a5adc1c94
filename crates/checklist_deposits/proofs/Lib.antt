-- The claim of request #106 over a list of calls.
pub mod Deposits
