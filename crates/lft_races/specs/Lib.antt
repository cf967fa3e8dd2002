pub mod Runs
pub mod Races
pub mod Across
pub mod Hints
pub mod inner
