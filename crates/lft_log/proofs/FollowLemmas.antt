pub mod Reading
pub mod Words
pub mod Reaching
pub mod Refusing
pub mod Keeping
