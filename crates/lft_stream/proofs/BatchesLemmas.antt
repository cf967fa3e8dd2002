pub mod Cutting
pub mod Reading
pub mod Sharing
pub mod Progressing
