pub mod Inputs
pub mod Fits
