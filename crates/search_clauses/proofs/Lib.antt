-- The laws that others go by, with the file of each.
-- table_is (Formula): the clauses of a formula's node table are the formula's table.
-- clauses_here, visit_asks (Walk): the clauses in a place are those of the gate that the walk has there, and what a visit of it asks for.
pub mod Walk
pub mod Formula
