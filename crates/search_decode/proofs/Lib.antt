-- The laws that others go by, with the file of each.
-- triple_found (Decode): the triples of one start stand as the intervals do, from the last to the first.
pub mod Decode
