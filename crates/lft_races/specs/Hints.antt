pub mod Hints
pub mod Words
