-- The laws that others go by, with the file of each.
-- swept_pending, swept_closed (Swept): after one visit of every gate all of the trail is to be taken, and closing from there is closing from nothing.
pub mod Swept
