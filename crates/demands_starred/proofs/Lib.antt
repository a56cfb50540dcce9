-- The laws that others go by, with the file of each.
-- edges_hold (Edges): every starred edge holds: each is computed, from the text or the line to what is printed.
pub mod Edges
