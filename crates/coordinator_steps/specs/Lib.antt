-- What the steps of the coordinator ask.
pub mod Ready
