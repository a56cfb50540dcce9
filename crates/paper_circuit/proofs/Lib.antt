-- The laws that others go by, with the file of each.
-- defined_once (Once): each variable from 1 + k·C to V is defined once, and no other is.
-- circuit_induction (Laws): what holds of the channels, and of a variable whenever of its gate's inputs, holds of 1 to V.
-- definitions_mention (Laws): a gate's inputs are from 1 to V, none is its own variable, and none comes twice.
-- blocks_append, blocks_parts (Blocks): the nodes' blocks follow each other without gap: a node's own, its first part's, its second part's.
pub mod Values
pub mod Blocks
pub mod Once
pub mod Inputs
pub mod Laws
