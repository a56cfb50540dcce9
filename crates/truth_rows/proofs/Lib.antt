-- The laws that others go by, with the file of each.
-- constant_step, negation_step, pair_step (Steps): one step of evaluating, once for both sorts: from the parts' truth the node's own.
pub mod Seen
pub mod Steps
