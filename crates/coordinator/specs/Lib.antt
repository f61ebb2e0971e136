-- What the calls on the coordinator promise, over the model's definitions.
pub mod Calls
pub mod Edges
