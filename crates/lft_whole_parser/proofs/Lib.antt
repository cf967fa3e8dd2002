pub mod Targets
pub mod ImportsLemmas
