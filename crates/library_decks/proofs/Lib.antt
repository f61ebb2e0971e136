-- Laws of the calls on decks.
pub mod Named
