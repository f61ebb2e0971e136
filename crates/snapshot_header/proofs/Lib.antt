-- The laws of the tests of a file before its bench.
pub mod HeaderLaws
