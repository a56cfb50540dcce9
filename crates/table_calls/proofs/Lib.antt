-- The laws that others go by, with the file of each.
-- sizes_fit (Laws): the five sizes of an accepted text are numbers of 32 bits.
pub mod Root
pub mod Call
pub mod Laws
pub mod Gives
