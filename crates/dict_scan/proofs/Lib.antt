-- What the parts of a walk call come to: the readings of its group, and the state and the buffers that are lent.
mod Scanning
mod Lent
