-- What the readers and the writers keep, and what each of their steps gives.
mod Reading
mod Words
mod Ends
mod Spaces
pub mod Digits
pub mod Writing
pub mod Answering
pub mod Limit
