pub mod Names
pub mod Naming
pub mod Origins
pub mod Parts
pub mod Sound
pub mod Steps
pub mod Words
pub mod inner
