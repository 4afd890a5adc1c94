-- Laws about the lines of a sheet and about whole sheets.
pub mod Unique
pub mod Reading
pub mod LinesMet
pub mod OneBook
pub mod Books
pub mod Examples
