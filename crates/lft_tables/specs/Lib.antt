pub mod Records
pub mod Parts
pub mod Tables
pub mod inner
