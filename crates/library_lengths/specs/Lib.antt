-- How much a caller of the library lends.
pub mod Lengths
