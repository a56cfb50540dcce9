pub mod Limits
pub mod Ascii
pub mod Trees
pub mod Reader
pub mod Nodes
pub mod Questions
