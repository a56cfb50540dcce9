-- The laws that others go by, with the file of each.
-- chop_no, chop_yes, chop_skip (Chop): the three things that a turn of a chop's row can do.
pub mod Chop
