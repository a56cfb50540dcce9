-- The laws that others go by, with the file of each.
-- block_weight (Weights): what a block comes to in variables, clauses or literals.
-- row_weight_lem (Rows): the same of a row of the node table.
-- gate_clauses, gate_literals (Sizes): how many clauses and literals a gate has.
pub mod Weights
pub mod Rows
pub mod Sizes
