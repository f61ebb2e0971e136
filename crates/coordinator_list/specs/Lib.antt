-- What the list call asks and promises, over the model's definitions.
pub mod Promises
pub mod Edges
