pub mod Starts
pub mod Collisions
pub mod Answering
pub mod inner
