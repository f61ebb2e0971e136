-- The laws of the coordinator in lent memory.
pub mod MemoryLaws
