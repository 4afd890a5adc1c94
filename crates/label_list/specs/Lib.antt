-- The list of labels (Listed: a reader of the call believes it), and what the functions tell each other (Found).
pub mod Listed
pub mod Found
