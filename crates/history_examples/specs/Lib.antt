-- Histories of calls that there are, step by step, and what the claims come to there.
pub mod Example
pub mod OneBatch
pub mod FirmInstances
pub mod DroppedHistory
