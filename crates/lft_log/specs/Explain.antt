pub mod Cuts
pub mod Listed
pub mod Reasons
pub mod Explained
pub mod Refusals
