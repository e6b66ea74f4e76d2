-- The fingerprint of a list of numbers, and cases of it.
pub mod Mix
pub mod Cases
