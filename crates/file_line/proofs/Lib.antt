-- The laws that others go by, with the file of each.
-- line_reads_back, line_is (Laws): the line of C, k and a text reads as these, and nothing else does.
-- long_enough (Output): what stands beyond the first 512 bytes of an input changes nothing.
pub mod Items
pub mod Laws
pub mod Reading
pub mod Output
pub mod File
