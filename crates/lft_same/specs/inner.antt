pub mod Expanded
pub mod Fits
pub mod Laws
pub mod Times
