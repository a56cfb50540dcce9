pub mod Extension
pub mod Calls
