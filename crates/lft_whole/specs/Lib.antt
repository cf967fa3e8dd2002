pub mod Forms
pub mod Names
pub mod Pieces
pub mod Places
pub mod Parts
pub mod Sources
pub mod inner
