pub mod Meanings
pub mod Names
pub mod Notes
pub mod Places
pub mod Refused
pub mod Standing
