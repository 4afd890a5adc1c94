-- Laws about questions 1 to 4, cleanness, lists that ascend and well-formed slots, and of passes that test each place.
pub mod Refusals
pub mod Cleanness
pub mod Ascents
pub mod WellFormed
pub mod Passes
