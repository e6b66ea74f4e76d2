-- What a block has as lines run, and what the blocks of a script are.
mod Lines
mod Gathering
pub mod Whole
