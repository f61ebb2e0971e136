-- What the three exported functions promise.
pub mod Promises
pub mod Edges
