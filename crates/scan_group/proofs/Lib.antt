-- The larger table's buckets, one a turn, the chains read one after the other, and what is answered and written, all for the
-- calls too; and what the two readings keep.
pub mod Buckets
pub mod Chains
pub mod HandingOut
mod Counting
mod Writing
pub mod SoundTables
pub mod Places
