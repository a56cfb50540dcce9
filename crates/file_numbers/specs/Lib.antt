pub mod File
pub mod Held
