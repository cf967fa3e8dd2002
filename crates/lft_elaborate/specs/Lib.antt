pub mod Names
pub mod Places
pub mod Values
pub mod Channels
pub mod inner
