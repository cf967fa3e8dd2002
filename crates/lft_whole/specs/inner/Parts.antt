pub mod Parsing
pub mod View
