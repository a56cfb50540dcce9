pub mod Questions
pub mod Fit
