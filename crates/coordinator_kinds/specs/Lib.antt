-- What the functions for the single kinds of message ask and promise, over the model's definitions.
pub mod Steps
