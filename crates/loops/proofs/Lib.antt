-- Laws of numbers that no dependency goes against.
pub mod Descent
