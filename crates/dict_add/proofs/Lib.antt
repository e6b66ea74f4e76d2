-- What an add comes to, from the current and the other buffer to the lent ones: with no rehash, and during one.
mod Adding
