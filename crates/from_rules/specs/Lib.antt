-- What making a table from its rules promises.
pub mod Making
