pub mod Asking
pub mod Passed
pub mod Gives
