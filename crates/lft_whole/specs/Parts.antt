pub mod Language
pub mod Lexeme
pub mod Parts
pub mod Tree
pub mod View
