pub mod Explain
pub mod Logs
pub mod Told
