-- The laws that others go by, with the file of each.
-- rows_defined (Places): the definitions of the node table's rows are the formula's; the writer, the check and the extension go by it.
-- table_places_lem (Places): the places of the node table's rows, and then the root's, are those of the formula's table.
-- table_mentioned (Mentioned): every variable that is looked up is one of the V.
pub mod Places
pub mod Rows
pub mod Measure
pub mod Known
pub mod Mentioned
