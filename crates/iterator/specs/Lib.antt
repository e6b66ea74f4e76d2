-- What the pass call looks for in a table.
pub mod Tables
