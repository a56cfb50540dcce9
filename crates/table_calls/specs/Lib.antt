pub mod Table
pub mod Left
pub mod Rows
