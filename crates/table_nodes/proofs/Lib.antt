pub mod Walk
pub mod Nodes
pub mod Mentioned
