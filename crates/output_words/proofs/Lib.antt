-- Laws of the words of a refusal.
pub mod WordLaws
