-- What each call answers and hands back (specification 4). A reader of the calls believes these.
pub mod Answers
pub mod Asking
pub mod Ends
