pub mod Chop
