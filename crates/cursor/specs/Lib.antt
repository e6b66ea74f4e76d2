-- The cursor of a walk: its reversal, the next cursor, and the group of buckets that one call hands out; and what it is
-- to be in a list.
pub mod Member
pub mod Reverse
pub mod Next
pub mod Group
