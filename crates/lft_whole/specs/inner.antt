pub mod Parts
pub mod Pieces
pub mod Sources
pub mod Tokens
