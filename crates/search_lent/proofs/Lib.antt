-- The laws that others go by, with the file of each.
-- search_known (Arrays): the search on the parts of the lent arrays is the formula's.
pub mod Arrays
