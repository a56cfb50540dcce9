-- The laws that others go by, with the file of each.
-- intervals_numbered (Laws): the intervals in order have the places 0 to I − 1, each once; the interval at a place and the place of an interval undo
--   each other.
-- triples_numbered (Laws): the same of triples, J and their places.
-- triples_in_a_row (Laws): the triples of one interval stand in a row, in order of m.
-- counts_at_32, counts_at_64 (Laws): I ≤ 561 and J ≤ 6,545 up to 32 steps; 2,145 and 47,905 up to 64.
-- made_good, good_made (Laws): the constructor makes the intervals of k steps within the limit, and nothing else.
-- place_in_row, row_formula (Rows): adding row lengths gives document 01's place; split_count: and I at the end.
-- next_start, triple_in_row (Rows): a triple's place from the same sums.
-- entries_numbered (Shape): what these two are instances of: things named by a shape's entries are numbered by its places.
pub mod Shape
pub mod Counts
pub mod Laws
pub mod Rows
pub mod Gives
