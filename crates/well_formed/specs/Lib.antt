-- The words of the contracts: of the answer (Slots), and of the links by which two equal rules are found (Keys).
pub mod Slots
pub mod Keys
