-- The laws that others go by, with the file of each.
-- read_written (Laws): reading the bytes that were written for sizes and arrays gives back those, or 18.
-- write_read (Laws): writing what was read gives back the bytes, or 18.
-- table_written (Writable): every table that the table's call writes is taken by the file's writer.
pub mod Calls
pub mod Laws
pub mod Writable
