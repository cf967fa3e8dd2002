pub mod Lists
pub mod Upstream
pub mod Causes
pub mod Giving
pub mod Fed
pub mod Untriggered
pub mod WrongReads
pub mod Found
pub mod Near
pub mod Beside
pub mod Added
mod Choosing
mod FirstRace
pub mod Clashes
pub mod RowGiving
mod Asking
mod Firing
mod Running
