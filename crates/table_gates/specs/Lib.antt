pub mod Within
pub mod Mentioned
