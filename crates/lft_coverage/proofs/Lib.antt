mod Taking
mod Listed
mod Tests
mod Together
pub mod DriverLemmas
