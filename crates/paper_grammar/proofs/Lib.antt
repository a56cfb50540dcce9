-- The laws that others go by, with the file of each.
-- reads_back (Printed): the reader reads back every printed tree.
-- one_reading (Laws): no text has two readings.
-- prints_as_text (Laws): what the reader reads prints as the text, letters a to h.
-- stops_at_place (Laws): where the reader stops at p: some formula's text begins with the first p bytes, none with the first p + 1, and p is the
--   length exactly where the text only ends early.
-- part_read (Printed): what reads_back and one_reading rest on: reading a printed part comes to its end, whatever stands around it.
-- meant (Kept): what prints_as_text and stops_at_place rest on: a reading has taken the bytes that it says, and can always be completed.
-- each_node (EachNode): what passes from a node to its parts is known at every node; and the nodes from it on begin with its own.
pub mod Decimal
pub mod Bytes
pub mod Printed
pub mod Kept
pub mod Laws
pub mod Written
pub mod Gives
pub mod EachNode
