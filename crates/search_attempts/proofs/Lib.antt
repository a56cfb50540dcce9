pub mod Values
pub mod Attempts
