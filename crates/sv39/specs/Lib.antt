pub mod Entries
pub mod Statements
pub mod Inner
