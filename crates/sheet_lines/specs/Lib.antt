pub mod Commands
pub mod Readings
pub mod Parts
