-- One entry of a rule.
pub mod First
