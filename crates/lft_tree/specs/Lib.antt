pub mod Identifiers
pub mod ItemView
pub mod Tree
pub mod View
