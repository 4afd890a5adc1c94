-- Numbers that no dependency goes against.
pub mod Descent
