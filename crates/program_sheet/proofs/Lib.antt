-- What follows from the contracts: program and plain book, joined.
pub mod Joined
