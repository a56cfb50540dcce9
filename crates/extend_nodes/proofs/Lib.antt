-- The laws that others go by, with the file of each.
-- block_values_lem (Blocks): what a rule makes of the parts' truths, by their places, are the node's values.
pub mod Blocks
