pub mod Files
pub mod Paths
pub mod Places
pub mod Reads
