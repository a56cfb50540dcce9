pub mod Clauses
pub mod Entries
