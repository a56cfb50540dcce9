-- The laws that others go by, with the file of each.
-- dead_none, found_satisfies, found_earliest (Outcome): where the tree is dead no recording satisfies the formula; the one found does, and it is
--   the first.
pub mod Order
pub mod Outcome
pub mod Ends
pub mod Gives
