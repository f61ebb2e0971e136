-- What the calls on sites promise.
pub mod Calls
pub mod Edges
