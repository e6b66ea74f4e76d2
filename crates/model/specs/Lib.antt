-- What the store is and what each call means: a file for each part of SPECIFICATION. Definitions only;
-- laws about them stand in proofs/.
pub mod Keys
pub mod Limits
pub mod Memory
pub mod Answers
pub mod Calls
pub mod Walk
pub mod Iterators
pub mod Verify
pub mod Repair
pub mod Sequences
pub mod Cases
