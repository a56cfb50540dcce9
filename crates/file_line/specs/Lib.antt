pub mod Line
pub mod Output
pub mod Parts
