-- The laws that others go by, with the file of each.
-- reached (Cover): a visit of clauses that suffice for u in T, a part of T and all of T that name u, has reached T for u.
-- own_suffices, left_suffices, right_suffices (Lines): constants, letters, !, &, |: the place alone in which the variable, or the part's truth,
--   stands.
-- after_suffices, instant_suffices (Levels): a duration and [S]: of a variable on [i, j] that of [i, j + 1], on its level and the one above; of S at
--   t all [i, t + 1].
-- interval_suffices, triple_suffices, first_suffices, second_suffices (Chops): a chop: an interval's gate; a triple's, and two clauses of its
--   interval's; of P on [i, m] all (i, m, j), of Q on [m, j] all (i, m, j).
-- channel_suffices (Letters): a channel at an instant: its letters at that instant.
-- near_part, near_root (Joint): a variable's own node, and then its parent or the root, are all of the table that names it.
-- pending_start, pending_step, queue_done (Pending): a try has one place to take; a place whose variable was reached is taken; where all are taken,
--   the set is closed.
-- ground_of (Formula): a formula's node table, with the nearest nodes as parents, is a ground: parts and parents stand where the code looks for them.
pub mod Chops
pub mod Cover
pub mod Fine
pub mod Formula
pub mod Ground
pub mod Joint
pub mod Letters
pub mod Levels
pub mod Lines
pub mod Named
pub mod Near
pub mod Pending
pub mod Rows
pub mod Seats
pub mod Stands
