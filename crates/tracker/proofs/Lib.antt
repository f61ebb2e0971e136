-- The laws of the batch call.
pub mod WalkLaws
pub mod Turning
pub mod Edges
