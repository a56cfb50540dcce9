-- The laws that others go by, with the file of each.
-- found_in_lem (Found): what a scan of the bytes finds for questions 5, 6 and 7 is what the tree's nodes have.
-- nodes_in_order (Laws): the nodes stand in the order of first bytes.
-- accepted (Laws): what acceptance for C and k says: the limits, the tree, its letters among the first C, every n at most 32, at most 64 nodes.
-- stands_pass (Standing): where a node stands in the text at its first byte, its parts stand at theirs.
pub mod InOrder
pub mod Standing
pub mod Found
pub mod Asked
pub mod Laws
