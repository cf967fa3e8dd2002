pub mod Between
pub mod Names
pub mod Searches
pub mod Escapes
pub mod CodeEnds
pub mod Digits
pub mod Cuts
mod Samples
pub mod PartsLemmas
