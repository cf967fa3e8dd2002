mod Building
pub mod Decided
mod Giving
mod Goings
mod Listing
mod Marking
mod Meanings
mod Naming
pub mod Needing
pub mod Numbering
mod Passing
mod Refusing
pub mod Rows
pub mod Sets
pub mod Walking
