pub mod Driver
pub mod Facts
pub mod Pairs
pub mod Taking
