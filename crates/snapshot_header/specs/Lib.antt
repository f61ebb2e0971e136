-- What the tests of a file before its bench require and promise.
pub mod Header
