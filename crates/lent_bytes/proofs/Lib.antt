pub mod Undoing
pub mod Checks
