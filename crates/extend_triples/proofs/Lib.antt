-- The laws that others go by, with the file of each.
-- begun, turn, done (Parts): a slice filled part after part.
pub mod Cutting
pub mod Parts
pub mod Listed
