-- What the tests of a whole network's memory require and promise.
pub mod Promises
