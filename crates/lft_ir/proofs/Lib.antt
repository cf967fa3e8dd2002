pub mod Decimals
pub mod Positions
pub mod Ranges
pub mod Origins
pub mod Naming
pub mod StepsLemmas
pub mod WordsLemmas
