-- What saving a bench and reading it back promise to callers of the library.
pub mod Snapshot
