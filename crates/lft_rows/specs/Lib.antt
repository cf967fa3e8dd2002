pub mod Firsts
pub mod Presence
pub mod Answers
pub mod inner
