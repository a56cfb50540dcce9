pub mod Places
pub mod Limits
pub mod Rows
