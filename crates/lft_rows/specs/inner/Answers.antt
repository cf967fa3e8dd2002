pub mod Answers
pub mod Readings
