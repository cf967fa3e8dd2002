pub mod Lowered
pub mod Meanings
pub mod Needed
pub mod Refused
pub mod Programs
pub mod Reactors
pub mod Standing
pub mod Times
