-- The step that comes before a delete, on the lent buffers.
pub mod Step
