pub mod Traces
pub mod Clashes
