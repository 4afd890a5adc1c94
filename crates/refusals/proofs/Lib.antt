-- Laws about refusals and their numbers. Nothing here needs to be believed.
pub mod Refusals
