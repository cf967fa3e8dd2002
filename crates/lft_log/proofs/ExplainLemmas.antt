pub mod Cutting
pub mod Early
pub mod Listing
pub mod Writing
