-- What the parts of each call come to.
mod Finding
mod Updating
