-- A masked number, and what the loop keeps. The public ones are for the calls: the test of the state, the choice of the
-- current buffer, and what a chain's count says.
mod Masks
mod OneBit
mod Stepping
mod Counting
pub mod Counted
pub mod Tested
pub mod Orientation
