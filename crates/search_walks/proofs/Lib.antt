pub mod Places
pub mod Gates
