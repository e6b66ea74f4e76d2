-- What the loops keep and what each turn gives, and what the parts of a call come to.
mod Fitting
mod FreeList
mod NewStore
mod Resizing
