pub mod Circles
pub mod Members
pub mod Seen
pub mod Shown
pub mod Witnesses
