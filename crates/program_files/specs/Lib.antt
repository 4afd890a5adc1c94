-- What the programs that keep a table on disk do (specification 7.9). A reader of these programs believes these.
pub mod Saves
pub mod Loads
