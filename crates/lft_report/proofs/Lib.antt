pub mod Back
pub mod Texts
pub mod Lines
pub mod QuotesLemmas
