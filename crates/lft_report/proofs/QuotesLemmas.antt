pub mod Placed
pub mod Joined
pub mod Lines
