pub mod Counts
pub mod Orders
pub mod Overlaps
pub mod Workers
pub mod Cover
pub mod inner
