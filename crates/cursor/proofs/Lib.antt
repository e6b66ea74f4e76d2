-- The theory of the walk's cursor, for every size: what reversal is, what the next cursor is, what a call hands out, and what
-- it does with a key ahead of the cursor or behind it.
pub mod Reversal
pub mod NextCursor
pub mod ByteTable
pub mod HighBits
pub mod QuickStep
pub mod HalfWord
pub mod Interval
pub mod Sweep
pub mod LargeBuckets
pub mod Walks
