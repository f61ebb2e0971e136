-- The loop over a session's calls ends.
pub mod ServingLaws
