pub mod Recordings
pub mod Scripts
pub mod Seen
