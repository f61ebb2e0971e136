-- Laws of counting an item.
pub mod CountLaws
