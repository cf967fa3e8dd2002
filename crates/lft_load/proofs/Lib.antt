pub mod Texts
pub mod Loading
