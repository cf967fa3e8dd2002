pub mod Turning
pub mod Writing
pub mod Feeding
pub mod Levelling
pub mod Chains
pub mod Cycles
pub mod Arranging
pub mod Bits
mod Toggling
pub mod Ancestry
pub mod Counting
pub mod Once
mod Numbered
