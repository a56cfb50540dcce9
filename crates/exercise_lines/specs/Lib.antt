pub mod Levels
pub mod Number
