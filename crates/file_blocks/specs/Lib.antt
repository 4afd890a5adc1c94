-- A table on disk (specification 7): the bytes that are written, and the questions that are asked of bytes. A reader of
-- saving and loading believes these.
pub mod Words
pub mod Sums
pub mod Places
pub mod Files
pub mod Questions
pub mod Book
