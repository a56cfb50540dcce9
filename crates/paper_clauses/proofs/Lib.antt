-- The laws that others go by, with the file of each.
-- meets_exactly, meets_by (Meets): an assignment meets a gate's clauses exactly where the variable has the gate's value; and so for a list of
--   definitions.
-- table_sound (Named): no clause is empty, none names a variable twice, every variable is from 1 to V.
-- table_reads_back (Named): the two arrays read back as the clauses.
pub mod Meets
pub mod Good
pub mod ReadBack
pub mod Flat
pub mod Named
