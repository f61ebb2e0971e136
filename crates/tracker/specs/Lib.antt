-- What the batch call promises.
pub mod Batch
pub mod Edges
