pub mod Walk
pub mod Nodes
