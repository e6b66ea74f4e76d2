-- The state that an add leaves, the free list's next head, what is known of a step before it is taken, and what is promised
-- where one comes first.
pub mod Counts
pub mod Free
pub mod Foretold
pub mod Moving
