pub mod Findings
pub mod Members
pub mod Witnesses
pub mod inner
