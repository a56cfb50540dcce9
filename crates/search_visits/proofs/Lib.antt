-- The laws that others go by, with the file of each.
-- visited_then, visited_stop (Parts): visits one after another are one visit of both lists of clauses; a clash of one is a clash of both.
pub mod Parts
pub mod Loops
pub mod Long
