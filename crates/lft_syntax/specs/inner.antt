pub mod Parsing
pub mod Placed
pub mod Reading
pub mod Seen
pub mod Tests
pub mod View
