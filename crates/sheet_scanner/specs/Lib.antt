pub mod Judging
pub mod Scans
