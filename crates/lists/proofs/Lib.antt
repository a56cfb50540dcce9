-- The laws that others go by, with the file of each.
-- cond_elim (Tests): what holds either way of a test holds of what it picks.
-- length_rows, get_or_rows (Listing): how long lists joined from rows are, and what stands in them where.
-- all_append, all_map, all_rows (Lists): what holds of every entry holds of every entry of the list made from it.
-- begun, turn (Fill): a list filled from place 0 on, one place a turn; listed (Listing): a list that has a function's numbers is its listing.
-- sets_append, stored_before, stored_over (Stored): lists stored one after another are stored at once; what stands beyond stays.
pub mod Tests
pub mod Listing
pub mod Lists
pub mod Fill
pub mod Stored
