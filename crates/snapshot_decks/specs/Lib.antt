-- What the tests of the decks of a file require and promise.
pub mod Decks
