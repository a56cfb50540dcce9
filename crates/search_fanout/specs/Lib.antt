pub mod Walks
pub mod Fanout
pub mod Wiring
