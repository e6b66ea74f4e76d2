-- What a step reads of a chain, and what moving it does.
pub mod MovedChains
