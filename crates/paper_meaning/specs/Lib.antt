pub mod Meaning
pub mod Recording
pub mod Words
