pub mod Sure
pub mod Reach
pub mod OpenRuns
pub mod Follows
pub mod inner
