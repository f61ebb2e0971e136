-- What the batch call promises to C.
pub mod Batch
