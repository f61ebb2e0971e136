-- Laws of the calls of a session.
pub mod BeginLaws
pub mod LineLaws
