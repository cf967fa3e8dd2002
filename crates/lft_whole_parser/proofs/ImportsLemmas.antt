pub mod Columns
pub mod Counting
pub mod Known
pub mod Telling
pub mod Walks
