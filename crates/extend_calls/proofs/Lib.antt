-- The laws that others go by, with the file of each.
-- written_more (Rows): once the nodes after a node are written, its parts' truth is found at their seats.
pub mod Rows
pub mod Call
