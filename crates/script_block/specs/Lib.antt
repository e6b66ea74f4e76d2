-- What a block has.
pub mod Blocks
