pub mod Logs
pub mod Told
pub mod Follow
pub mod Explain
pub mod inner
