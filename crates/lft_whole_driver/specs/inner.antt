pub mod Could
pub mod Lowered
pub mod Pages
pub mod Told
pub mod Unlowered
