pub mod Crossed
pub mod Flattened
pub mod Links
pub mod Only
pub mod Pairs
pub mod Sameness
