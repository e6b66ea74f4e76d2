-- Handing out to the front of a list, and the bytes of a list and of its front.
mod Front
mod Parts
mod Listing
