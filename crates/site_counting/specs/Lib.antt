-- What counting an item promises.
pub mod Count
