-- The laws that others go by, with the file of each.
-- extension_meets (Laws): the extension meets all clauses but the last.
-- extension_only (Laws): it is the one that does, of those that have the recording's channels (extension_agrees: variable by variable).
-- extension_last (Laws): it meets the last clause exactly where the formula holds on [0, k].
-- accepted_exactly (Laws): V bytes, each 0 or 1, meet every clause exactly where they are the extension of the recording read from them, and that
--   recording satisfies the formula.
-- recording_back (Laws): the recording is read back from its extension.
-- recording_below (Recordings): the recording read from any assignment has no bit C or above, so every call takes it.
-- nodes_meet (Meets): values by the meaning have the value of every gate.
-- same_channels (Only): two that meet all clauses but the last and have the same channels are the same.
pub mod Values
pub mod Longer
pub mod Meets
pub mod Only
pub mod Recordings
pub mod Laws
pub mod Gives
