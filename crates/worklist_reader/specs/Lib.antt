-- What the calls of this crate promise, and what holds of a walk.
pub mod Promises
pub mod Walk
pub mod Reading
pub mod WalkClaims
