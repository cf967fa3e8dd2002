pub mod Causes
pub mod Enough
pub mod Neighbours
pub mod Ways
