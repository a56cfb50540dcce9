-- The laws that others go by, with the file of each.
-- all_right, all_honest (Table): what each gate's clauses force first under each four values is what the table has; where a bit says that nothing is
--   forced, nothing is.
pub mod Renamed
pub mod Table
pub mod Steps
