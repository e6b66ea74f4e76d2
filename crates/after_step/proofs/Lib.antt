-- The chains after a move, what they are to a lookup after a step, and what the code's parts come to; an entry's link; and
-- what a call that takes a step first comes to, from what was told, which the calls use.
mod SameChains
mod Stacking
mod ChainsAfter
mod Presences
mod PresenceAfter
mod Surveying
pub mod Deciding
mod LinkAfter
pub mod Courses
pub mod StepFirst
