pub mod Expanded
pub mod Flat
pub mod Instances
pub mod Reactors
pub mod Same
pub mod Taken
pub mod Whole
