pub mod Helping
pub mod Printing
pub mod TablesLemmas
