-- The laws that others go by, with the file of each.
-- numbers_back, all_bytes_back (Bytes): four bytes and their number give each other back, along a list.
pub mod Bytes
pub mod Stored
