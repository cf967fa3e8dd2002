pub mod Counting
pub mod Covering
pub mod Fronts
