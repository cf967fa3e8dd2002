pub mod Causes
pub mod Shown
pub mod Spots
