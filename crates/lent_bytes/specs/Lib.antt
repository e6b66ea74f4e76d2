pub mod Exports
pub mod Checked
