pub mod Needs
pub mod Shapes
pub mod inner
