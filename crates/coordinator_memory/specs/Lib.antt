-- The parts of the consistency test, in the order in which the code makes them.
pub mod Consistency
