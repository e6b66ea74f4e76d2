pub mod Length
pub mod Lent
pub mod Chains
