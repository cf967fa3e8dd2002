pub mod Children
pub mod Contents
pub mod Joins
pub mod Listing
pub mod Numbers
pub mod Sources
pub mod Values
pub mod Ways
