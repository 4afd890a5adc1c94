-- Private: what the functions that ask of a file's blocks tell each other.
pub mod Blocks
