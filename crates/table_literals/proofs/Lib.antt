-- The laws that others go by, with the file of each.
-- and_then, turn, done (Written): places written one list after another; every loop that writes goes by them.
pub mod Written
pub mod Any
