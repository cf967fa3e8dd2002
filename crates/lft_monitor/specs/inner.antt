pub mod Follows
pub mod Going
pub mod Kept
pub mod OpenRuns
pub mod Timely
