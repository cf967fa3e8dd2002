pub mod Lowered
pub mod Unlowered
pub mod Pages
pub mod Told
pub mod inner
