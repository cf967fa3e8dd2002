pub mod AtTag
