-- What the tests of a whole file require and promise.
pub mod Refusal
