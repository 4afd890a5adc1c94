-- What the contracts say: of the exported functions (Numbers), and of one slot of a round (Passes).
pub mod Numbers
pub mod Passes
