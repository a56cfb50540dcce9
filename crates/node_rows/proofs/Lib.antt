-- The laws that others go by, with the file of each.
-- begun_tree (Begun): going through a tree's bytes one meets its nodes in order, each with its sort.
-- row_found (Rows): a node's row follows from its first byte and the sizes and lengths of its parts.
pub mod Steps
pub mod Begun
pub mod Rows
pub mod Found
pub mod Forms
