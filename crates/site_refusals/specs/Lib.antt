-- A site by its record alone, as the tests look at it.
pub mod Bare
