pub mod Counting
pub mod Keeping
mod Marks
pub mod Spelling
mod Standing
mod Using
mod Valuing
pub mod ChannelsLemmas
