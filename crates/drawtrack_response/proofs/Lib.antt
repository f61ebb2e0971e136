-- The responses to an input.
pub mod RespondLaws
pub mod HandLaws
