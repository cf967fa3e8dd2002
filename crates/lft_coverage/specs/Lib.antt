pub mod Facts
pub mod Pairs
pub mod Sums
pub mod Driver
pub mod inner
