pub mod Drops
pub mod Failing
