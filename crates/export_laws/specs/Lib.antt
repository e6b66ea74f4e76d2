pub mod Cases
pub mod Refusals
pub mod WrongExports
