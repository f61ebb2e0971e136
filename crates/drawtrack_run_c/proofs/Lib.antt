-- The run in memory.
pub mod MemoryLaws
