pub mod Located
pub mod Links
pub mod Flattening
pub mod inner
