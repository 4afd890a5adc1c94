-- What a program can say of its input and its output. A reader of the programs believes these.
pub mod Told
pub mod Reads
