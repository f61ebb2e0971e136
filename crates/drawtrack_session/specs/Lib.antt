-- What the calls of a session promise.
pub mod Begin
pub mod Advance
