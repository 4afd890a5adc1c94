-- The claim, proved over any trace of calls that each meet their contract.
pub mod Sequence
pub mod Demands
