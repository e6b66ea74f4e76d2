-- What the first free entry comes to, where no step comes first and where one does.
pub mod Taking
mod Foretelling
mod Going
pub mod Preparing
mod Answering
pub mod AddingAfter
pub mod Pushed
mod Paused
pub mod Resting
pub mod Kept
