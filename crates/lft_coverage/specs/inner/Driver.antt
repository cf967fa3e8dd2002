pub mod Covered
pub mod Fronts
