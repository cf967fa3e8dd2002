pub mod Counts
pub mod Orders
