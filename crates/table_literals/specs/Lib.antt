pub mod Written
pub mod Writes
