pub mod Tables
pub mod Found
