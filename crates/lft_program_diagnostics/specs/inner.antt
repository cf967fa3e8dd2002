pub mod Codes
pub mod Pages
pub mod Sentences
pub mod Singles
