-- What the tests of the desk part of a file require and promise.
pub mod Desk
