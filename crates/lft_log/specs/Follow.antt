pub mod Lines
pub mod Kept
pub mod Followed
pub mod Refusals
pub mod Reaches
