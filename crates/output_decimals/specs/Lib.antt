-- What the calls of this crate promise.
pub mod Promises
