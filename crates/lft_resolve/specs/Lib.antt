pub mod Causes
pub mod Instances
pub mod Kinds
pub mod Sheets
pub mod Expansion
pub mod inner
