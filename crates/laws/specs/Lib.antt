-- Definitions that know nothing of the tracker, for the contracts of the crates above.
pub mod Writing
