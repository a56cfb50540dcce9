-- The laws that others go by, with the file of each.
-- packed_apart (Told): the halves of a packed number are what was packed.
-- told_apart (Told): two answers, each of which its number tells, have one number only where they are the same.
-- evaluation_asks, .. (Asks): a call's questions have document 01's numbers, in its order.
-- evaluated_told, .. (Calls): what is decoded from a call's number is the call's answer, for every input.
pub mod Asks
pub mod Told
pub mod Calls
