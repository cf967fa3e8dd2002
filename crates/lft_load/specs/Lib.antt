pub mod Status
pub mod Faults
pub mod Written
pub mod Words
pub mod Meaning
pub mod Refusals
