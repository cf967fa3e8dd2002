pub mod Counts
pub mod Precedence
pub mod Before
pub mod Graph
pub mod Loops
pub mod Sets
pub mod inner
