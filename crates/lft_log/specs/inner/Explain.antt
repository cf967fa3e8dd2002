pub mod Cuts
pub mod Explained
