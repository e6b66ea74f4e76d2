-- Whether a step is due, what the loops keep and what each turn gives, and what the parts of a call come to.
pub mod Due
mod LookingAhead
mod Relinking
pub mod Stepping
