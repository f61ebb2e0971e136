-- What the response to an input promises.
pub mod Responding
