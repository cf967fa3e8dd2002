pub mod Lists
pub mod Known
pub mod BegunRun
pub mod CommittedRun
pub mod Refusals
pub mod Finishing
pub mod Commuting
