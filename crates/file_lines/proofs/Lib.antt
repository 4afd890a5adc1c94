-- The laws that the function's proof cites, and (Books) what is printed of a file by the plain book.
pub mod Telling
pub mod Books
