-- What a walk call does with two live tables.
pub mod Groups
