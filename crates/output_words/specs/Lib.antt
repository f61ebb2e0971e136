-- The words of a refusal.
pub mod Words
