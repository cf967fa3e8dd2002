pub mod Numbers
pub mod Traces
pub mod Faults
pub mod ExternalTables
pub mod Written
pub mod LogTables
pub mod inner
