-- Laws of the steps of a session.
pub mod OutputLaws
pub mod MessageLaws
pub mod FinishLaws
pub mod TakeLaws
