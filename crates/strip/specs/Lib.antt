pub mod Strip
pub mod Call
