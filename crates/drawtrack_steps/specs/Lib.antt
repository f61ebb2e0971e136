-- What the steps of a session promise.
pub mod Output
pub mod Outcome
pub mod Steps
