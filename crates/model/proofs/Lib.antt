-- Laws about the definitions of specs/.
pub mod Tests
pub mod Lists
pub mod Sums
pub mod Power
pub mod Fields
pub mod Chains
pub mod Linked
pub mod Shared
pub mod AtMost
pub mod Soundness
pub mod Computing
pub mod Cases
pub mod Lookups
pub mod Moved
pub mod StepAhead
pub mod StepLeaves
pub mod StepFirst
pub mod AddLeaves
pub mod Pairs
pub mod Suggested
pub mod FirstPlace
-- of the check and the repair
pub mod Numbers
pub mod Followed
pub mod Relinked
pub mod Kept
pub mod FirstMet
