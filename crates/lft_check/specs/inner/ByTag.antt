pub mod Absences
pub mod Indexes
pub mod Least
pub mod Reads
pub mod Slices
pub mod Walks
