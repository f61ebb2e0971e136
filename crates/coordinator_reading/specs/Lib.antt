-- What the margin call and the quantile call ask and promise, over the model's definitions.
pub mod Promises
pub mod Edges
