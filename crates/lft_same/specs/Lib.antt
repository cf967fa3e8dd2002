pub mod Expanded
pub mod inner
