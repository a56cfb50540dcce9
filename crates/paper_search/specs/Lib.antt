pub mod Search
pub mod Left
