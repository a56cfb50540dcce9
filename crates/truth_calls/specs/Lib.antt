pub mod Evaluation
pub mod Rows
