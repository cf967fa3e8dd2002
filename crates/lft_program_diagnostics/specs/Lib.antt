pub mod Spans
pub mod Pages
pub mod Spots
pub mod Reasons
pub mod Loops
pub mod Sentences
pub mod inner
