-- What the contracts say beyond the words of the theory: Model is what the exported function asks and answers,
-- Rounds what the functions inside tell each other.
pub mod Model
pub mod Rounds
