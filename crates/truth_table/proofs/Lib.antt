-- The laws that others go by, with the file of each.
-- inverse_tables, joined_tables (Joined): !, & and | of tables.
-- filled_turn, rows_turn (Rows): a table filled row by row is right once every row is: durations, [S] and chop alike.
pub mod Joined
pub mod Rows
pub mod Measuring
