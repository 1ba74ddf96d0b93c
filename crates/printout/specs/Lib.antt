-- What is printed.
pub mod Texts
