pub mod Texts
pub mod Fields
pub mod Written
