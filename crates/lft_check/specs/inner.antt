pub mod ByTag
pub mod Least
pub mod Ranks
pub mod Shares
pub mod Verdicts
