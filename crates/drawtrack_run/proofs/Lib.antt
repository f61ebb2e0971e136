-- The answer of the run.
pub mod RunLaws
