mod Entries
pub mod Numbers
mod Meeting
mod Going
mod Held
mod Laying
mod Running
mod Overlapping
mod Tallied
pub mod Agreeing
