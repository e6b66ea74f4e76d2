-- What is proved of the store, as statements about any meaning of the calls.
pub mod Worlds
pub mod Demand1
pub mod Demand2
pub mod Demand3
pub mod ExactlyOnce
pub mod RehashesEnd
pub mod SafeIterators
