-- Private: what the functions that read a file's records tell each other and `file_calls`.
pub mod Reading
