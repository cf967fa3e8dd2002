pub mod Candidates
pub mod Diagnostics
pub mod Places
pub mod Quotes
pub mod Refusals
pub mod Told
pub mod Tables
pub mod inner
