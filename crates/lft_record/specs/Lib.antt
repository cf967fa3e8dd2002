pub mod Expressions
pub mod CardTables
pub mod CardFaults
pub mod Scripts
pub mod Faults
pub mod Recordings
pub mod Answers
pub mod inner
