-- The laws of the tests of a whole file.
pub mod NarrowLaws
pub mod BenchLaws
