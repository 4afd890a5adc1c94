-- What the loop that reads does. A reader of the programs believes these.
pub mod Takes
