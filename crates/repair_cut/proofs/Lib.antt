-- What the loops keep and what each turn gives.
mod Cutting
mod Deciding
