pub mod Running
pub mod Ending
mod Racing
pub mod Standing
