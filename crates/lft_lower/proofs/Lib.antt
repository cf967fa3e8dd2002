mod Adding
mod Defaults
mod Joining
mod Named
mod Names
mod Needing
mod Pairing
mod Standing
mod Turns
pub mod MeaningsLemmas
