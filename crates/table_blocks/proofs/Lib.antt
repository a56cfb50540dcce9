-- The laws that others go by, with the file of each.
-- own_defined, chop_defined (Own): the walk of a block defines what document 01 lists.
-- next_placed (Positions): the next position has the next place.
-- throughout_empty, throughout_one, throughout_longer (Throughout): the gate of [S] on no step, on one, and on more.
pub mod Rules
pub mod Positions
pub mod Heads
pub mod Own
pub mod Throughout
