-- The lemma library: facts on tests, numbers and lists that know nothing of the tracker.
pub mod Tests
pub mod Arithmetic
pub mod Lists
pub mod Sums
pub mod Updates
pub mod FlatMemory
pub mod Overwrite
pub mod Writing
pub mod Fronts
