-- What a lookup and an entry's link are after a rehash step, what the functions below the public ones tell of it, what is known
-- of a step before it, and what a call knows that is to take it.
pub mod Presence
pub mod Told
pub mod Links
pub mod Course
pub mod Planned
