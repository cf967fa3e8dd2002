pub mod Causes
pub mod Clashes
pub mod Kept
pub mod Lookups
pub mod Needed
pub mod Traces
