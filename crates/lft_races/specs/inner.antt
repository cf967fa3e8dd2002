pub mod Across
pub mod Hints
pub mod Noted
pub mod Races
pub mod Runs
