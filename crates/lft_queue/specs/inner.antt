pub mod Coming
pub mod Keys
pub mod Pending
pub mod Reading
