pub mod Stepping
pub mod LastRead
pub mod Made
