pub mod Accepting
pub mod Explained
pub mod Told
