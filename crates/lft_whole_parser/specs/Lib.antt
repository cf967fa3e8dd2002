pub mod Files
pub mod Grammar
pub mod Imports
pub mod inner
