-- The laws that others go by, with the file of each.
-- ask_append, then_asked (Walk): question 14 of clauses after clauses: the first no answers.
pub mod Walk
