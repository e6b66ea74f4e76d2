-- What the two readings see of the lent buffers, and the buckets of a group.
pub mod Lent
pub mod Chains
pub mod Sweep
pub mod Written
