pub mod Answered
pub mod Answering
pub mod Contrasts
pub mod Enough
pub mod Pairs
pub mod Places
