-- What the functions of this crate promise one another and `reason_call`.
pub mod SupportEntries
pub mod Gathering
