-- What the calls that ask a checklist answer, from what label answered and the labels keep.
pub mod Labels
pub mod Asking
