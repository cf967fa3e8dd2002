pub mod Candidates
pub mod Diagnostics
pub mod Refusals
pub mod Tables
pub mod Trying
