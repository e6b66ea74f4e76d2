-- Stores that the statements exclude: each is a meaning of the calls, most of them ours but for one call.
pub mod OneCall
pub mod Starts
pub mod KeyCalls
pub mod Walks
pub mod Rehashes
pub mod StepRules
pub mod HiddenSteps
pub mod Growth
pub mod ReadCalls
pub mod Refusals
pub mod Strays
pub mod Passes
pub mod Iterators
pub mod Unreached
