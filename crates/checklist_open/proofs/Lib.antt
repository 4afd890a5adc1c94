-- The frame added rule by rule.
pub mod Opening
