-- A list written into a lent buffer. No exported contract cites these: a reader of the calls believes those of `calls`.
pub mod Lists
pub mod Written
