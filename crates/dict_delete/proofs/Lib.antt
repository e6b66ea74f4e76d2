-- What the steps of a delete come to, the whole of it, and with no rehash under way.
mod Removing
mod Deleting
mod Resting
