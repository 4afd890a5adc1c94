-- What a program that answers a sheet does. A reader of the programs believes these.
pub mod Answered
