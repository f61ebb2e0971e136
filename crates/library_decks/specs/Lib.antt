-- What the calls on all decks promise.
pub mod AllDecks
