-- What the parts of the batch call ask and promise.
pub mod Steps
pub mod Turns
