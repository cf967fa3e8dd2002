pub mod Marks
pub mod Picked
pub mod Quoted
