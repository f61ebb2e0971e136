-- The laws of the tests of the decks of a file.
pub mod DeckLaws
