pub mod CardFacts
pub mod CardTableFacts
pub mod CardsDiffer
pub mod Places
pub mod Sums
pub mod TermsDiffer
