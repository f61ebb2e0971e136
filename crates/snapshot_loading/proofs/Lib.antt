-- The laws of storing what a file says.
pub mod LoadingLaws
pub mod AnswerLaws
