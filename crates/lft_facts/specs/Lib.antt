pub mod Reasons
pub mod Facts
pub mod Enough
pub mod inner
