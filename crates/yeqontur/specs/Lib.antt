-- What crosses the boundary to C, and the numbers by which a program knows the library.
pub mod Crossing
pub mod Versions
