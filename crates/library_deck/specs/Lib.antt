-- What the calls on one deck promise.
pub mod OneDeck
