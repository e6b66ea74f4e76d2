pub mod Computing
pub mod Cases
pub mod Refusals
pub mod WrongExports
