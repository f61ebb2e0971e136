-- Laws of numbers one after another as bytes.
pub mod RunLaws
