-- The check and the repair of a whole store.
pub mod Verified
-- the repaired store; what is kept of one that is undamaged; repaired twice
pub mod Repaired
pub mod Unchanged
pub mod Twice
pub mod FirstKept
-- what it meets; no key is lost; the same finds
pub mod Reached
pub mod NothingLost
pub mod SameFinds
