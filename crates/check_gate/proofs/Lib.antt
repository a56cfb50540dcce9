-- The laws that others go by, with the file of each.
-- unmet_known (Gates): which clause of a gate is the first unmet one.
pub mod Gates
