-- Masks, and what they make of a word.
pub mod Masks
