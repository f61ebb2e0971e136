-- What the tests of a whole network require and promise.
pub mod Promises
