pub mod Books
pub mod PendingEvents
pub mod Begun
pub mod Causes
pub mod Answers
pub mod Reasons
pub mod Endings
pub mod inner
