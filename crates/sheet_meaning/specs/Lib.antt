-- What a sheet does (specification 6): its lines, and the whole of it. A reader of the sheet program believes these.
pub mod Lines
pub mod Sheets
pub mod Calls
pub mod Seen
